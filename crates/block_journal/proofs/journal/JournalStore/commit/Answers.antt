use Rattle.std.proofs.Common.{◌≡◌, ◌∙◌, ℕ, List, length, ◌==◌, refl, sym, ap, subst, arith}
use Rattle.std.specs.Prelude.{All}
use Rattle.std.proofs.lemmas.List.{nil_from_length}
use Rattle.block_journal.specs.Change.{Change}
use Rattle.block_journal.specs.Commit.{last_byte}
use Rattle.block_journal.specs.Placing.{AreWhole}
use Rattle.block_journal.specs.Redo.{put_all}
use Rattle.block_journal.specs.Stands.{told_where}
use Rattle.block_journal.specs.JournalLaw.{are_whole, length-put_all, put_all-whole, none_list, standing_is}
use Rattle.block_journal.proofs.Standing.{commits_nothing, is_dirty, commit_stops, commit_standing, commit_stands-of, told_same, say_room-from, few_changes, none_rise}
use Rattle.block_journal.proofs.journal.JournalStore.commit.Goals as goal

pub returns-then-is_empty-clause-commits : goal.returns-then-is_empty-clause-commits
returns-then-is_empty-clause-commits g c =
    let short : length c.args.self.now.staged.entries ≡ 0 = c.is_empty.ensures.0 c.if-is_empty.true in
    let same = none_list (g.T.Site.image c.args.self.now.site) c.args.self.now.staged.entries c.args.self.now.kept.items (nil_from_length c.args.self.now.staged.entries short) in
    commits_nothing _ _ (sym same) (ap (λ (n : ℕ). n == 0) short) (standing_is c.args.self.now.first c.args.self.now.count c.args.self.now.kept.items (g.T.Site.image c.args.self.now.site) (g.T.Site.left_at c.args.self.now.site (g.T.Site.moment c.args.self.now.site)) (c.args.self.now.stands c.requires)) (λ clean. tt)

pub make_body-requires : goal.make_body-requires
make_body-requires g c = omega (arith, few_changes c.args.self.now.count c.args.self.now.staged.entries c.args.self.now.rise)

pub make_changes-requires : goal.make_changes-requires
make_changes-requires g c = subst (λ (n : ℕ). AreWhole n c.args.self.now.staged.entries) (sym c.args.self.now.counted) (are_whole 0 c.args.self.now.count c.args.self.now.staged.entries c.args.self.now.rise)

pub returns-in_default-clause-commits : goal.returns-in_default-clause-commits
returns-in_default-clause-commits g c =
    commits_nothing _ _ tt tt (standing_is c.args.self.now.first c.args.self.now.count c.args.self.now.kept.items (g.T.Site.image c.args.self.now.site) (g.T.Site.left_at c.args.self.now.site (g.T.Site.moment c.args.self.now.site)) (c.args.self.now.stands c.requires)) (is_dirty c.is_empty.ensures c.if-is_empty.false)

pub returns-then-is_err-clause-commits : goal.returns-then-is_err-clause-commits
returns-then-is_err-clause-commits g c =
    record {
      done = tt;
      kept = told_same (g.T.Site.image c.args.self.now.site) (g.T.Site.image c.commit_changes-done.new.site) c.args.self.now.kept.items c.commit_changes-done.ensures.told;
      cleaned = tt;
      list = told_same (g.T.Site.image c.args.self.now.site) (g.T.Site.image c.commit_changes-done.new.site) (put_all c.args.self.now.staged.entries c.args.self.now.kept.items) c.commit_changes-done.ensures.told;
      number = refl;
      said = c.commit_changes-done.ensures.said;
      stops = commit_stops c.args.self.now.first c.args.self.now.count c.args.self.now.staged.entries c.args.self.now.kept.items (g.T.Site.image c.args.self.now.site) (g.T.Site.said c.args.self.now.site) (c.args.self.now.stands c.requires) (λ x s left. g.met.T.Site.said_now c.args.self.now.site x s left) c.commit_changes-done.ensures.stops;
      standing = commit_standing c.args.self.now.first c.args.self.now.count c.args.self.now.staged.entries c.args.self.now.kept.items (g.T.Site.image c.args.self.now.site) (g.T.Site.image c.commit_changes-done.new.site) (c.args.self.now.stands c.requires) c.commit_changes-done.ensures.told;
      memory = λ is. cc;
      nothing = λ clean. absurd (is_dirty c.is_empty.ensures c.if-is_empty.false clean);
      say_faults = c.commit_changes-done.ensures.say_faults;
      room = say_room-from (last_byte c.args.self.now.first c.args.self.now.count) (g.T.Site.room c.args.self.now.site) (g.T.Site.room c.commit_changes-done.new.site) (g.T.Site.disk_faults c.args.self.now.site) (g.T.Site.disk_faults c.commit_changes-done.new.site) _ c.commit_changes-done.ensures.room;
      fetches = refl;
    }

pub returns-clause-commits : goal.returns-clause-commits
returns-clause-commits g c =
    let made : c.make_changes.new.blocks.items ≡ put_all c.args.self.now.staged.entries c.args.self.now.kept.items = c.make_changes.ensures in
    let done = ap (told_where (g.T.Site.image c.commit_changes-done.new.site)) made ∙ told_same (g.T.Site.image c.args.self.now.site) (g.T.Site.image c.commit_changes-done.new.site) (put_all c.args.self.now.staged.entries c.args.self.now.kept.items) c.commit_changes-done.ensures.told in
    record {
      done = done;
      kept = tt;
      cleaned = ap (λ (l : List Change). length l == 0) c.clear.ensures.empty;
      list = none_list (g.T.Site.image c.commit_changes-done.new.site) c.clear.new.self.entries c.make_changes.new.blocks.items c.clear.ensures.empty ∙ done;
      number = refl;
      said = c.commit_changes-done.ensures.said;
      stops = commit_stops c.args.self.now.first c.args.self.now.count c.args.self.now.staged.entries c.args.self.now.kept.items (g.T.Site.image c.args.self.now.site) (g.T.Site.said c.args.self.now.site) (c.args.self.now.stands c.requires) (λ x s left. g.met.T.Site.said_now c.args.self.now.site x s left) c.commit_changes-done.ensures.stops;
      standing = commit_standing c.args.self.now.first c.args.self.now.count c.args.self.now.staged.entries c.args.self.now.kept.items (g.T.Site.image c.args.self.now.site) (g.T.Site.image c.commit_changes-done.new.site) (c.args.self.now.stands c.requires) c.commit_changes-done.ensures.told;
      memory = λ is. cc;
      nothing = λ clean. absurd (is_dirty c.is_empty.ensures c.if-is_empty.false clean);
      say_faults = c.commit_changes-done.ensures.say_faults;
      room = say_room-from (last_byte c.args.self.now.first c.args.self.now.count) (g.T.Site.room c.args.self.now.site) (g.T.Site.room c.commit_changes-done.new.site) (g.T.Site.disk_faults c.args.self.now.site) (g.T.Site.disk_faults c.commit_changes-done.new.site) _ c.commit_changes-done.ensures.room;
      fetches = refl;
    }

pub invariant_of-self-2 : goal.invariant_of-self-2
invariant_of-self-2 g c =
    let made : c.make_changes.new.blocks.items ≡ put_all c.args.self.now.staged.entries c.args.self.now.kept.items = c.make_changes.ensures in
    record {
      behind = c.args.self.now.behind;
      near = c.args.self.now.near;
      counted = ap length made ∙ length-put_all c.args.self.now.staged.entries c.args.self.now.kept.items ∙ c.args.self.now.counted;
      whole = subst (λ (l : List (List ℕ)). All (λ block. length block ≡ 4096) l) (sym made) (put_all-whole c.args.self.now.count c.args.self.now.staged.entries c.args.self.now.kept.items c.args.self.now.rise c.args.self.now.whole);
      rise = none_rise c.args.self.now.count c.clear.new.self.entries c.clear.ensures.empty;
      stands = λ live. commit_stands-of c.commit_changes-done.result c.args.self.now.first c.args.self.now.count c.args.self.now.staged.entries c.args.self.now.kept.items c.make_changes.new.blocks.items (g.T.Site.image c.args.self.now.site) (g.T.Site.image c.commit_changes-done.new.site) (g.T.Site.left_at c.args.self.now.site (g.T.Site.moment c.args.self.now.site)) (g.T.Site.left_at c.commit_changes-done.new.site (g.T.Site.moment c.commit_changes-done.new.site)) (sym c.is_err.ensures.value ∙ c.if-is_err.false) made (c.args.self.now.stands c.requires) c.commit_changes-done.ensures.told c.commit_changes-done.ensures.done c.commit_changes-done.ensures.exact;
    }
