use Rattle.std.proofs.Common.{◌≡◌, ℕ, ◌+◌, ◌<◌, List, [], ◌∷◌, ◌++◌, length, take, drop, get_or, refl, sym, ap, ◌∙◌, arith, append_assoc, append-nil, take-append-drop}
use Rattle.std.proofs.lemmas.List.{take_more, length-take-le}
use Rattle.std.proofs.lemmas.Result.{err_from_is_err_and}
use Rattle.script_runs.specs.Lines.{ended_parts, last_part}
use Rattle.script_runs.proofs.Joined.{did_none}
use Rattle.script_runs.proofs.LineLemmas.{rest_open}
use Rattle.script_runs.proofs.Pieces.{did_more, cut_after, cut_in_front, number_more, rest_more}
use Rattle.script_runs.proofs.script.take_piece.Goals as goal

pub take_byte-requires-clause-unended : goal.take_byte-requires-clause-unended
take_byte-requires-clause-unended g c = rw c.loop-byte.invariant.0.is_rest (rest_open (c.args.pending.now.line ++ take c.loop-byte.byte-index c.args.piece.now))

-- the first bytes of the piece, and one more
seen_more : (begun piece : List ℕ) (i : ℕ) → i < length piece → begun ++ take (i + 1) piece ≡ (begun ++ take i piece) ++ get_or piece i 0 ∷ []
seen_more begun piece i lt = ap (λ (l : List ℕ). begun ++ l) (take_more piece i 0 lt) ∙ sym (append_assoc begun (take i piece) (get_or piece i 0 ∷ []))

whole_piece : (begun piece : List ℕ) (i : ℕ) → begun ++ piece ≡ (begun ++ take (i + 1) piece) ++ drop (i + 1) piece
whole_piece begun piece i = ap (λ (l : List ℕ). begun ++ l) (sym (take-append-drop (i + 1) piece)) ∙ sym (append_assoc begun (take (i + 1) piece) (drop (i + 1) piece))

pub returns-in_err-take_byte-clause-took : goal.returns-in_err-take_byte-clause-took
returns-in_err-take_byte-clause-took g c =
    let i = c.loop-byte.byte-index in
    let begun = c.args.pending.now.line in
    let piece = c.args.piece.now in
    let inv = c.loop-byte.invariant in
    let lt : i < length piece = omega (arith, c.loop-byte-test.true) in
    let p = err_from_is_err_and c.from_residual.result c.from_residual.ensures.1 in
    let stop = cut_after (begun ++ take i piece) (get_or piece i 0 ∷ []) c.loop-byte.pending.line c.loop-byte.pending.number inv.0.is_rest inv.0.is_number inv.0.did (rw inv.1 at c.in_err-take_byte.ensures.took) in
    rw (p.1, p.2, whole_piece begun piece i) (cut_in_front (begun ++ take (i + 1) piece) (drop (i + 1) piece) (rw (seen_more begun piece i lt) stop))

pub loop-byte-preserved : goal.loop-byte-preserved
loop-byte-preserved g c =
    let i = c.loop-byte.byte-index in
    let begun = c.args.pending.now.line in
    let piece = c.args.piece.now in
    let inv = c.loop-byte.invariant in
    let lt : i < length piece = omega (arith, c.loop-byte-test.true) in
    let x = begun ++ take i piece in
    let y : List ℕ = get_or piece i 0 ∷ [] in
    let seen = seen_more begun piece i lt in
    let long : length (take (i + 1) piece) ≡ i + 1 = length-take-le (i + 1) piece (omega arith) in
    let short : length (take i piece) ≡ i = length-take-le i piece (omega arith) in (
      record {
        ready = record {
          is_ready = c.in_ok-take_byte.ensures.ends.ready;
          disk_later = omega (arith, inv.0.ready.disk_later, c.in_ok-take_byte.ensures.ends.disk_later);
          say_later = omega (arith, inv.0.ready.say_later, c.in_ok-take_byte.ensures.ends.say_later);
        };
        is_rest = rw seen (rest_more x y c.loop-byte.pending.line c.take_byte.new.pending.line inv.0.is_rest c.in_ok-take_byte.ensures.line);
        is_number = rw seen (number_more c.args.pending.now.number c.loop-byte.pending.number c.take_byte.new.pending.number x y c.loop-byte.pending.line inv.0.is_rest inv.0.is_number c.in_ok-take_byte.ensures.number);
        rises = omega (arith, long, short, inv.0.rises, c.in_ok-take_byte.ensures.rises);
        did = rw seen (did_more x y c.loop-byte.pending.line c.loop-byte.pending.number inv.0.is_rest inv.0.is_number inv.0.did (rw inv.1 at c.in_ok-take_byte.ensures.took));
      },
      c.in_ok-take_byte.ensures.schema ∙ inv.1,
      g.met.L.LineTaker.steady_then _ _ _ inv.2 c.in_ok-take_byte.ensures.steady,
    )

pub loop-byte-init : goal.loop-byte-init
loop-byte-init g c =
    let t = g.L.LineTaker in
    let begun = c.args.pending.now.line in
    let same : begun ++ [] ≡ begun = append-nil begun in (
      record {
        ready = record { is_ready = c.requires.ready; disk_later = omega arith; say_later = omega arith };
        is_rest = rw same (sym (ap last_part c.requires.unended));
        is_number = rw (same, ap ended_parts c.requires.unended) (omega arith);
        rises = omega arith;
        did = rw (same, ap ended_parts c.requires.unended) (did_none (t.meaning (t.schema c.args.taker.now)) _ c.args.pending.now.number (t.seen c.args.taker.now));
      },
      refl,
      g.met.L.LineTaker.steady_none c.args.taker.now,
    )
