use Rattle.std.proofs.Common.{Bor, ◌≡◌, ◌+◌, ◌≤◌, ℕ, List, [], ◌∷◌, ◌++◌, length, Some, None, refl, sym, ◌∙◌, inl, inr, arith}
use Rattle.std.proofs.lemmas.List.{length-append}
use Rattle.csv.specs.Machine.{next_record}
use Rattle.csv.specs.Reading.{Reached, default_config, strip_bom}
use Rattle.csv.specs.Records.{fields_of}
use Rattle.csv.specs.declared.parser.State.TheVariants as st
use Rattle.csv.proofs.ReadFacts.{rows-end, rows-more}
use Rattle.hal_loader.proofs.Loadings.{none_yet, stands_now, one_more, all_loaded, one_refused}
use Rattle.hal_loader.proofs.Readings.{few_records, front_of, all_of}
use Rattle.hal_loader.proofs.records.load_records.Goals as goal

pub loop-item-init : goal.loop-item-init
unfolding Reached
loop-item-init g c =
    let fr = c.from_reader-reader.ensures in
    let start = c.into_iter-item-iterator.ensures.into_iter_gives ∙ refl in
    let rdr = c.into_byte_records-item-items.ensures.rdr in
    let left = c.into_byte_records-item-items.ensures.left in
    rw (start, rdr) (record {
      trims = rw (c.flexible.ensures, c.has_headers.ensures) at fr.trim ∙ c.new.ensures.trim;
      is_ready = inr (inr (rw (c.flexible.ensures, c.has_headers.ensures) at fr.has_headers, fr.headers));
      left = left;
      config = rw (c.flexible.ensures, c.has_headers.ensures) at fr.config ∙ c.new.ensures.config;
      read = [];
      reads = record { left = strip_bom c.args.text.now; source = fr.source; reached = (sym fr.state, refl) };
      count = refl;
      progress = none_yet c.args.schema.now (g.R.RowTaker.seen c.args.into.now) c.new-path.result c.requires.empty c.new-path.ensures;
      live = c.requires.live;
      same = c.requires.same;
      steady = g.met.R.RowTaker.steady_none c.args.into.now;
      later = omega arith;
    })

pub load_row-requires-clause-stands : goal.load_row-requires-clause-stands
load_row-requires-clause-stands g c =
    stands_now c.args.schema.now (g.R.RowTaker.seen c.args.into.now) (g.R.RowTaker.seen c.loop-item.into) c.loop-item.path c.loop-item.invariant.read c.loop-item.invariant.progress

pub at_row-requires : goal.at_row-requires
at_row-requires g c =
    let inv = c.loop-item.invariant in
    let s = rw (c.in-Some.is, c.in-Ok.is) at ((c.next.ensures.steps inv.left inv.trims).0 inv.is_ready) in
    let m = rows-more (λ (s : Bor (List ℕ)). Some s.now) c.loop-item.item-iterator.rdr c.next.new.self.rdr (fields_of c.in-Ok.fields) default_config st.StartRecord (strip_bom c.args.text.now) inv.reads.left inv.read inv.config inv.reads.source inv.reads.reached s.0 in
    let few : length (inv.read ++ fields_of c.in-Ok.fields ∷ []) ≤ length c.args.text.now = few_records c.args.text.now c.next.new.self.rdr.state m.0 (inv.read ++ fields_of c.in-Ok.fields ∷ []) m.2 in
    let long : length (inv.read ++ fields_of c.in-Ok.fields ∷ []) ≡ length inv.read + length {A = List (List ℕ)} (fields_of c.in-Ok.fields ∷ []) = length-append inv.read (fields_of c.in-Ok.fields ∷ []) in
    omega (arith, few, long, inv.count, c.requires.short)

pub overflow_add-done : goal.overflow_add-done
overflow_add-done g c =
    let inv = c.loop-item.invariant in
    let s = rw (c.in-Some.is, c.in-Ok.is) at ((c.next.ensures.steps inv.left inv.trims).0 inv.is_ready) in
    let m = rows-more (λ (s : Bor (List ℕ)). Some s.now) c.loop-item.item-iterator.rdr c.next.new.self.rdr (fields_of c.in-Ok.fields) default_config st.StartRecord (strip_bom c.args.text.now) inv.reads.left inv.read inv.config inv.reads.source inv.reads.reached s.0 in
    let few : length (inv.read ++ fields_of c.in-Ok.fields ∷ []) ≤ length c.args.text.now = few_records c.args.text.now c.next.new.self.rdr.state m.0 (inv.read ++ fields_of c.in-Ok.fields ∷ []) m.2 in
    let long : length (inv.read ++ fields_of c.in-Ok.fields ∷ []) ≡ length inv.read + length {A = List (List ℕ)} (fields_of c.in-Ok.fields ∷ []) = length-append inv.read (fields_of c.in-Ok.fields ∷ []) in
    omega (arith, few, long, inv.count, c.requires.short)

pub returns-in-Err-clause-loads : goal.returns-in-Err-clause-loads
returns-in-Err-clause-loads g c =
    let inv = c.loop-item.invariant in
    let s = rw (c.in-Some.is, c.in-Ok.is) at ((c.next.ensures.steps inv.left inv.trims).0 inv.is_ready) in
    let m = rows-more (λ (s : Bor (List ℕ)). Some s.now) c.loop-item.item-iterator.rdr c.next.new.self.rdr (fields_of c.in-Ok.fields) default_config st.StartRecord (strip_bom c.args.text.now) inv.reads.left inv.read inv.config inv.reads.source inv.reads.reached s.0 in
    let f = front_of c.args.text.now c.next.new.self.rdr.state m.0 (inv.read ++ fields_of c.in-Ok.fields ∷ []) m.2 in
    rw c.at_row.ensures (one_refused c.args.schema.now c.args.text.now (g.R.RowTaker.seen c.args.into.now) (g.R.RowTaker.seen c.loop-item.into) (g.R.RowTaker.seen c.load_row.new.into) c.loop-item.path c.load_row.new.path
    inv.read (fields_of c.in-Ok.fields) f.behind c.loop-item.done c.in-Err.why c.requires.empty inv.progress f.split inv.count c.in-Err.ensures.did)

pub returns-in-Err-clause-steady : goal.returns-in-Err-clause-steady
returns-in-Err-clause-steady g c = g.met.R.RowTaker.steady_then _ _ _ c.loop-item.invariant.steady c.load_row.ensures.steady

pub loop-item-preserved : goal.loop-item-preserved
loop-item-preserved g c =
    let inv = c.loop-item.invariant in
    let s = rw (c.in-Some.is, c.in-Ok.is) at ((c.next.ensures.steps inv.left inv.trims).0 inv.is_ready) in
    let m = rows-more (λ (s : Bor (List ℕ)). Some s.now) c.loop-item.item-iterator.rdr c.next.new.self.rdr (fields_of c.in-Ok.fields) default_config st.StartRecord (strip_bom c.args.text.now) inv.reads.left inv.read inv.config inv.reads.source inv.reads.reached s.0 in
    let long : length (inv.read ++ fields_of c.in-Ok.fields ∷ []) ≡ length inv.read + length {A = List (List ℕ)} (fields_of c.in-Ok.fields ∷ []) = length-append inv.read (fields_of c.in-Ok.fields ∷ []) in
    record {
      trims = s.0.3 ∙ inv.trims;
      is_ready = inl s.1;
      left = s.2;
      config = s.0.2 ∙ inv.config;
      read = inv.read ++ fields_of c.in-Ok.fields ∷ [];
      reads = record { left = m.0; source = m.1; reached = m.2 };
      count = omega (arith, long, inv.count);
      progress = one_more c.args.schema.now (g.R.RowTaker.seen c.args.into.now) (g.R.RowTaker.seen c.loop-item.into) (g.R.RowTaker.seen c.load_row.new.into) c.loop-item.path c.load_row.new.path
          inv.read (fields_of c.in-Ok.fields) inv.progress c.in_default-load_row.ensures.did c.in_default-load_row.ensures.untold;
      live = c.load_row.ensures.faults.alive (λ e. c.in_default-load_row.not-Err _ e);
      same = c.load_row.ensures.schema ∙ inv.same;
      steady = g.met.R.RowTaker.steady_then _ _ _ inv.steady c.load_row.ensures.steady;
      later = omega (arith, inv.later, c.load_row.ensures.faults.later);
    }

pub returns-clause-loads : goal.returns-clause-loads
returns-clause-loads g c =
    let inv = c.loop-item.invariant in
    let s = rw c.in-None.is at ((c.next.ensures.steps inv.left inv.trims).0 inv.is_ready) in
    let none : next_record default_config c.loop-item.item-iterator.rdr.state [] [] inv.reads.left ≡ None =
    rows-end (λ (s : Bor (List ℕ)). Some s.now) c.loop-item.item-iterator.rdr c.next.new.self.rdr [] default_config inv.reads.left inv.config inv.reads.source s in
    all_loaded c.args.schema.now c.args.text.now (g.R.RowTaker.seen c.args.into.now) (g.R.RowTaker.seen c.loop-item.into) c.loop-item.path inv.read c.loop-item.done c.requires.empty inv.progress
    (all_of c.args.text.now c.loop-item.item-iterator.rdr.state inv.reads.left inv.read inv.reads.reached none) inv.count
