-- A row is judged by what is kept, and taken: what that is on the rows.
use Rattle.std.proofs.Common.{◌≡◌, ℕ, ◌+◌, ◌<◌, ◌≤◌, ◌==◌, nat_lt, Bool, true, false, not, cond, ◌&&◌, List, [], ◌∷◌, map, length, Option, Some, None, Result, Ok, Err, refl, sym, ap, subst, ◌∙◌, arith}
use Rattle.std.specs.Prelude.{codes, find, is_none, is_some, IfSome, IsTrue, MatchOption, unwrap_or, ⊤}
use Rattle.std.specs.List.{list_all, slice_get}
use Rattle.std.specs.Option.{option_map, option_map_or, option_and_then}
use Rattle.std.proofs.lemmas.Bool.{and_from, not_from_false, eqb-true, eq-eqb, true≢false, ltb-true, lt-ltb}
use Rattle.hal_base.specs.declared.place.Ilk.{Ilk}
use Rattle.hal_schema.specs.declared.row.Row.{Row}
use Rattle.hal_schema.specs.declared.schema.Schema.{Schema}
use Rattle.hal_schema.specs.declared.schema.SegType.{SegType}
use Rattle.hal_schema.specs.Facts.{IsKept}
use Rattle.hal_schema.specs.Forest.{has_length, is_selected}
use Rattle.hal_schema.specs.Insertion.{has_free_key, has_parent_in, enters_freely}
use Rattle.hal_schema.specs.Row.{is_parent, row_key}
use Rattle.hal_schema.specs.SegType.{parent_code, is_parent_code, type_of}
use Rattle.hal_loader.specs.Carrying.{level_kept, code_kept, passed_on, AreOnPath, StandsAs, Stands, RowDid, RowPlaced, row_at}
use Rattle.hal_loader.specs.Judging.{kept_refusals, JudgesBy, IsJudgement, as_row_fault}
use Rattle.hal_loader.specs.Placing.{coming, with_name, path_from, parent_path, first_name, goes_by_key, is_of, load_need}
use Rattle.hal_loader.specs.Refusals.{Standing, first_that_holds, text_refusals, row_refusals, row_said, may_be_taken, is_below_last}
use Rattle.hal_loader.specs.Saying.{IsSaid}
use Rattle.hal_loader.specs.Text.{code_said, content_said}
use Rattle.hal_loader.specs.declared.said.Said.{Said}
use Rattle.hal_loader.specs.Taker.{TakerView, TellsSame, Takes, TookRow, IsTwice, HasNoRoom}
use Rattle.hal_loader.specs.declared.fault.RowFault.{RowFault}
use Rattle.hal_loader.specs.declared.fault.RowFault.TheVariants as row
use Rattle.hal_loader.specs.declared.path.Level.{Level}
use Rattle.hal_loader.specs.declared.taker.TakeFault.{TakeFault}
use Rattle.hal_loader.specs.declared.taker.TakeFault.TheVariants as take
use Rattle.hal_loader.proofs.Climbs.{row_code, path_map, passed_map, first_kept, Climbed, climbed, first_is_of, none_above}
use Rattle.hal_loader.proofs.Comings.{came}
use Rattle.hal_loader.proofs.Judgements.{behind, first_some, first_none, tables_agree, passed}

-- the way up to a row's parent, on what is kept
pub record Way (schema : Schema) (levels : List Level) (code : ℕ) (content : List ℕ) (below : Option Level) (above : List Level) (parent : Option Ilk) (key : List ℕ) : Type 0 where
  pub above_is : above ≡ path_from code_kept (parent_code schema.types code) levels
  pub below_is : below ≡ passed_on code_kept (parent_code schema.types code) None levels
  pub parent_is : parent ≡ option_map (λ (l : Level). l.name) (slice_get above 0)
  pub key_is : key ≡ row_key schema.types (coming None code content)

abbrev rows_above : Schema → Standing → ℕ → List Row
rows_above schema at code = path_from row_code (parent_code schema.types code) at.path

abbrev row_below : Schema → Standing → ℕ → Option Row
row_below schema at code = passed_on row_code (parent_code schema.types code) None at.path

-- and on the rows
record OnRows (schema : Schema) (at : Standing) (code : ℕ) (below : Option Level) (above : List Level) (parent : Option Ilk) : Type 0 where
  above_is : above ≡ map (level_kept schema.types) (rows_above schema at code)
  below_is : below ≡ option_map (level_kept schema.types) (row_below schema at code)
  parent_is : parent ≡ first_name (rows_above schema at code)
  up : Climbed schema at.rows (row_below schema at code) (rows_above schema at code)

on_rows : (schema : Schema) (view : TakerView) (levels : List Level) (at : Standing) (code : ℕ) (content : List ℕ) (below : Option Level) (above : List Level) (parent : Option Ilk) (key : List ℕ)
    → StandsAs schema view levels at → Way schema levels code content below above parent key → OnRows schema at code below above parent
on_rows schema view levels at code content below above parent key s w =
    let wanted : Option ℕ = parent_code schema.types code in
    let up : above ≡ map (level_kept schema.types) (rows_above schema at code) =
    w.above_is ∙ ap (path_from code_kept wanted) s.levels_are ∙ path_map schema.types wanted at.path in
    record {
      above_is = up;
      below_is = w.below_is ∙ ap (passed_on code_kept wanted None) s.levels_are ∙ passed_map schema.types wanted None at.path;
      parent_is = w.parent_is ∙ ap (λ (l : List Level). option_map (λ (l : Level). l.name) (slice_get l 0)) up ∙ first_kept schema.types (rows_above schema at code);
      up = climbed schema at.rows wanted None at.path (record { siblings = s.carried.childless; on_path = s.carried.on_path; apart = s.carried.apart });
    }

-- ---- roots and parents

pub root_alone : (schema : Schema) (at : Standing) (code : ℕ) → IsKept schema → code ≡ 1 → first_name (rows_above schema at code) ≡ None
root_alone schema at code k one =
    ap (λ (c : ℕ). first_name (rows_above schema at c)) one ∙ ap (λ (o : Option ℕ). first_name (path_from row_code o at.path)) k.root ∙ ap first_name (none_above at.path)

pub parent_kind : (wanted : Option ℕ) (path : List Row) → (is_some wanted && is_none (first_name (path_from row_code wanted path))) ≡ false
    → wanted ≡ option_map (λ (r : Row). r.code) (slice_get (path_from row_code wanted path) 0)
parent_kind None path e = sym (ap (λ (l : List Row). option_map (λ (r : Row). r.code) (slice_get l 0)) (none_above path))
parent_kind (Some c) path e = by (path_from row_code (Some c) path) refl e
  where
    by : (l : List Row) → path_from row_code (Some c) path ≡ l → (true && is_none (first_name l)) ≡ false → Some c ≡ option_map (λ (r : Row). r.code) (slice_get l 0)
    by [] f g = cc g
    by (h ∷ rest) f g = ap (λ (n : ℕ). Some n) (eqb-true c h.code (first_is_of (Some c) path h rest f))

-- a parent stands among the rows
pub has_parent : (schema : Schema) (rows path : List Row) (code : ℕ) (content : List ℕ) → IsKept schema → AreOnPath schema rows (path_from row_code (parent_code schema.types code) path)
    → has_length schema.types (coming None code content) ≡ true → (code ≡ 1 → first_name (path_from row_code (parent_code schema.types code) path) ≡ None)
    → (is_some (parent_code schema.types code) && is_none (first_name (path_from row_code (parent_code schema.types code) path))) ≡ false
    → has_parent_in schema.types rows (coming (first_name (path_from row_code (parent_code schema.types code) path)) code content) ≡ true
has_parent schema rows path code content k on long alone lost = by (code == 1) refl
  where
    wanted : Option ℕ
    wanted = parent_code schema.types code

    not_root : (t : Option SegType) → type_of schema.types code ≡ t → option_map_or (λ (s : SegType). length content == s.bytes) t false ≡ true → (code == 1) ≡ false
        → is_some (option_and_then (λ (s : SegType). s.parent) t) ≡ true
    not_root None e h apart = cc h
    not_root (Some t) e h apart = parent t.parent refl
      where
        parent : (o : Option ℕ) → t.parent ≡ o → is_some o ≡ true
        parent None f = absurd (true≢false (sym (eq-eqb code 1 (k.only_root code t e f)) ∙ apart))
        parent (Some c) f = refl

    among : (l : List Row) → path_from row_code wanted path ≡ l → AreOnPath schema rows l → is_some wanted ≡ true → (is_some wanted && is_none (first_name l)) ≡ false
        → option_map_or (λ (above : Row). is_parent_code schema.types above.code code) (find (λ (r : Row). is_parent r (coming (first_name l) code content)) rows) false ≡ true
    among [] f on some g = absurd (true≢false (sym (ap (λ (b : Bool). b && true) some) ∙ g))
    among (h ∷ rest) f on some g =
        ap (λ (o : Option Row). option_map_or (λ (above : Row). is_parent_code schema.types above.code code) o false) on.0.newest.found ∙ of wanted refl (first_is_of wanted path h rest f)
      where
        of : (o : Option ℕ) → o ≡ parent_code schema.types code → is_of o h.code ≡ true → is_parent_code schema.types h.code code ≡ true
        of None e i = cc i
        of (Some c) e i = ap (λ (o : Option ℕ). option_map_or (λ (p : ℕ). p == h.code) o false) (sym e) ∙ i

    by : (b : Bool) → (code == 1) ≡ b → cond b (is_none (first_name (path_from row_code wanted path)))
        (option_map_or (λ (above : Row). is_parent_code schema.types above.code code) (find (λ (r : Row). is_parent r (coming (first_name (path_from row_code wanted path)) code content)) rows) false) ≡ true
    by true e = ap is_none (alone (eqb-true code 1 e))
    by false e = among (path_from row_code wanted path) refl on (not_root (type_of schema.types code) refl long e) lost

-- ---- judged

-- what judging by what is kept says, on the rows
judged_rows : (schema : Schema) (at : Standing) (code : ℕ) (content : List ℕ) (below : Option Level) (above : List Level) (parent : Option Ilk) (key : List ℕ)
    → OnRows schema at code below above parent → key ≡ row_key schema.types (coming None code content)
    → kept_refusals schema at.rows code parent key below
    ≡ kept_refusals schema at.rows code (first_name (rows_above schema at code)) (row_key schema.types (coming None code content)) (option_map (level_kept schema.types) (row_below schema at code))
judged_rows schema at code content below above parent key o k =
    ap (λ (p : Option Ilk). kept_refusals schema at.rows code p key below) o.parent_is
    ∙ ap (λ (b : Option Level). kept_refusals schema at.rows code (first_name (rows_above schema at code)) key b) o.below_is
    ∙ ap (λ (l : List ℕ). kept_refusals schema at.rows code (first_name (rows_above schema at code)) l (option_map (level_kept schema.types) (row_below schema at code))) k

told : {X : Type 0} (P : X → Type 0) (o : Option X) (x : X) → o ≡ Some x → IfSome o P → P x
told P o x e h = let t : IfSome (Some x) P = subst (λ q. IfSome q P) e h in t

pub judged_err : (schema : Schema) (old mid : TakerView) (levels after : List Level) (at : Standing) (code : ℕ) (content : List ℕ) (below : Option Level) (above : List Level) (parent : Option Ilk) (key : List ℕ)
    (why : RowFault) → IsKept schema → StandsAs schema old levels at → Way schema levels code content below above parent key
    → IfSome old.rows (λ rows. JudgesBy (kept_refusals schema rows code parent key below) (Err why)) → (IsJudgement (Err why) → TellsSame old mid)
    → RowPlaced schema at code content mid after (Err why)
judged_err schema old mid levels after at code content below above parent key row.Failed k s w judges looks = tt
judged_err schema old mid levels after at code content below above parent key row.Memory k s w judges looks = tt
judged_err schema old mid levels after at code content below above parent key (row.Broken rule) k s w judges looks =
    let o = on_rows schema old levels at code content below above parent key s w in
    let j : first_that_holds (kept_refusals schema at.rows code parent key below) ≡ Some rule = told (λ rows. first_that_holds (kept_refusals schema rows code parent key below) ≡ Some rule) old.rows at.rows s.rows judges in
    let new : Row = row_at schema.types at.path code content in
    let kept : first_that_holds (kept_refusals schema at.rows code new.parent (row_key schema.types new) (option_map (level_kept schema.types) (row_below schema at code))) ≡ Some rule =
    ap first_that_holds (sym (judged_rows schema at code content below above parent key o w.key_is)) ∙ j in
    let same = looks (λ x. x) in (
      tables_agree schema at.rows (behind schema at.rows at.free new) (row_below schema at code) (rows_above schema at code) new k o.up.siblings refl (root_alone schema at code k)
          ∙ first_some (kept_refusals schema at.rows code new.parent (row_key schema.types new) (option_map (level_kept schema.types) (row_below schema at code))) (behind schema at.rows at.free new) rule kept,
      same.rows ∙ s.rows,
      same.free ∙ s.free,
    )

judged_passed : (schema : Schema) (old : TakerView) (levels : List Level) (at : Standing) (code : ℕ) (content : List ℕ) (below : Option Level) (above : List Level) (parent : Option Ilk) (key : List ℕ)
    → IsKept schema → StandsAs schema old levels at → Way schema levels code content below above parent key
    → IfSome old.rows (λ rows. JudgesBy (kept_refusals schema rows code parent key below) (Ok tt))
    → first_that_holds (kept_refusals schema at.rows code (first_name (rows_above schema at code)) (row_key schema.types (coming None code content)) (option_map (level_kept schema.types) (row_below schema at code))) ≡ None
judged_passed schema old levels at code content below above parent key k s w judges =
    let o = on_rows schema old levels at code content below above parent key s w in
    ap first_that_holds (sym (judged_rows schema at code content below above parent key o w.key_is))
    ∙ told (λ rows. first_that_holds (kept_refusals schema rows code parent key below) ≡ None) old.rows at.rows s.rows judges

-- ---- what a taker asks

fits_here : (schema : Schema) (old : TakerView) (levels : List Level) (at : Standing) (code : ℕ) (content : List ℕ) (below : Option Level) (above : List Level) (parent : Option Ilk) (key : List ℕ)
    → IsKept schema → StandsAs schema old levels at → Way schema levels code content below above parent key → has_length schema.types (coming None code content) ≡ true
    → IfSome old.rows (λ rows. JudgesBy (kept_refusals schema rows code parent key below) (Ok tt)) → may_be_taken schema at.rows (coming parent code content) ≡ true
fits_here schema old levels at code content below above parent key k s w long judges =
    let o = on_rows schema old levels at code content below above parent key s w in
    let new : Row = row_at schema.types at.path code content in
    let p = passed schema at.rows (row_below schema at code) (rows_above schema at code) new k o.up.siblings refl (root_alone schema at code k)
    (judged_passed schema old levels at code content below above parent key k s w judges) in
    let under : Bool = not (goes_by_key schema new) && is_below_last schema.types at.rows new in
    ap (λ (q : Option Ilk). may_be_taken schema at.rows (coming q code content)) o.parent_is
    ∙ and_from (has_parent_in schema.types at.rows new && not under && has_free_key schema at.rows new) (is_selected schema new)
    (and_from (has_parent_in schema.types at.rows new && not under) (has_free_key schema at.rows new)
    (and_from (has_parent_in schema.types at.rows new) (not under)
    (has_parent schema at.rows at.path code content k o.up.on_path long (root_alone schema at code k) p.parent) (not_from_false under p.last)) p.free) p.chosen

pub fits_told : (schema : Schema) (old mid : TakerView) (levels : List Level) (code : ℕ) (content : List ℕ) (below : Option Level) (above : List Level) (parent : Option Ilk) (key : List ℕ)
    → IsKept schema → Stands schema old levels → Way schema levels code content below above parent key → has_length schema.types (coming None code content) ≡ true
    → IfSome old.rows (λ rows. JudgesBy (kept_refusals schema rows code parent key below) (Ok tt)) → TellsSame old mid
    → IfSome mid.rows (λ rows. IsTrue (may_be_taken schema rows (coming parent code content)))
fits_told schema old mid levels code content below above parent key k stands w long judges same =
    subst (λ (o : Option (List Row)). IfSome o (λ rows. IsTrue (may_be_taken schema rows (coming parent code content)))) (sym same.rows) (by old.rows refl stands)
  where
    by : (o : Option (List Row)) → old.rows ≡ o → MatchOption o ⊤ (λ rows. (at : Standing) × StandsAs schema old levels at)
        → IfSome o (λ rows. IsTrue (may_be_taken schema rows (coming parent code content)))
    by None e h = tt
    by (Some rows) e h =
        let is : Some rows ≡ Some h.0.rows = sym e ∙ h.1.rows in
        let rows_are : rows ≡ h.0.rows = cc is in
        ap (λ (l : List Row). may_be_taken schema l (coming parent code content)) rows_are ∙ fits_here schema old levels h.0 code content below above parent key k h.1 w long judges

-- ---- taken, or not

take_told : (schema : Schema) (rows : List Row) (coming_row : Row) (mid new : TakerView) (P : List Row → Type 0) → mid.rows ≡ Some rows
    → MatchOption mid.rows (new.rows ≡ None) P → P rows
take_told schema rows r mid new P e h = let t : MatchOption (Some rows) (new.rows ≡ None) P = subst (λ (o : Option (List Row)). MatchOption o (new.rows ≡ None) P) e h in t

behind_none : (schema : Schema) (rows : List Row) (free : ℕ) (new : Row) → list_all (enters_freely schema.types rows new) schema.indexes ≡ true → nat_lt free (load_need schema rows new) ≡ false
    → first_that_holds (behind schema rows free new) ≡ None
behind_none schema rows free new entries room =
    ap (λ (b : Bool). first_that_holds ((not b, codes "NI") ∷ (nat_lt free (load_need schema rows new), codes "+R") ∷ [])) entries
    ∙ ap (λ (b : Bool). first_that_holds ((b, codes "+R") ∷ [])) room

not_below : (a b : ℕ) → b ≤ a → nat_lt a b ≡ false
not_below a b le = by (nat_lt a b) refl
  where
    by : (c : Bool) → nat_lt a b ≡ c → c ≡ false
    by true e = let lt = ltb-true a b e in absurd (omega (arith, lt, le))
    by false e = refl

pub placed_ok : (schema : Schema) (old mid new : TakerView) (levels after : List Level) (at : Standing) (code : ℕ) (content : List ℕ) (below : Option Level) (above : List Level) (parent : Option Ilk) (key : List ℕ)
    (name : Ilk) → IsKept schema → StandsAs schema old levels at → Way schema levels code content below above parent key
    → IfSome old.rows (λ rows. JudgesBy (kept_refusals schema rows code parent key below) (Ok tt)) → TellsSame old mid
    → Takes schema (coming parent code content) mid new (Ok name) → after ≡ record { code = code; name = name; key = key } ∷ above
    → RowPlaced schema at code content new after (Ok tt)
placed_ok schema old mid new levels after at code content below above parent key name k s w judges same takes pushed =
    let o = on_rows schema old levels at code content below above parent key s w in
    let r : Row = row_at schema.types at.path code content in
    let got : TookRow schema at.rows (coming parent code content) mid new name =
    take_told schema at.rows (coming parent code content) mid new (λ rows. TookRow schema rows (coming parent code content) mid new name) (same.rows ∙ s.rows) takes in
    let t : TookRow schema at.rows r mid new name = subst (λ (q : Option Ilk). TookRow schema at.rows (coming q code content) mid new name) o.parent_is got in
    let none = judged_passed schema old levels at code content below above parent key k s w judges in
    let p = passed schema at.rows (row_below schema at code) (rows_above schema at code) r k o.up.siblings refl (root_alone schema at code k) none in
    let free : mid.free ≡ at.free = same.free ∙ s.free in
    let room : load_need schema at.rows r ≤ at.free = subst (λ (n : ℕ). load_need schema at.rows r ≤ n) free t.room in
    let row_now : Row = with_name r name in (
      record { row = with_name r name; free = new.free },
      record {
        kept = tables_agree schema at.rows (behind schema at.rows at.free r) (row_below schema at code) (rows_above schema at code) r k o.up.siblings refl (root_alone schema at code k)
            ∙ first_none (kept_refusals schema at.rows code r.parent (row_key schema.types r) (option_map (level_kept schema.types) (row_below schema at code))) (behind schema at.rows at.free r) none
            ∙ behind_none schema at.rows at.free r t.entries (not_below at.free (load_need schema at.rows r) room);
        said_is = refl;
        new = t.new_name;
        need = subst (λ (n : ℕ). n ≤ new.free + load_need schema at.rows r) free t.free_now;
      },
      record {
        rows = t.rows_now;
        free = refl;
        levels_are = pushed ∙ ap (λ (l : List ℕ). record { code = code; name = name; key = l } ∷ above) w.key_is
            ∙ ap (λ (l : List Level). level_kept schema.types (with_name r name) ∷ l) o.above_is;
        carried = came schema at.rows (row_below schema at code) (rows_above schema at code) (with_name r name) o.up s.carried.parents refl
            (parent_kind (parent_code schema.types code) at.path p.parent) t.new_name p.later p.above;
      },
    )

pub placed_err : (schema : Schema) (old mid new : TakerView) (levels after : List Level) (at : Standing) (code : ℕ) (content : List ℕ) (below : Option Level) (above : List Level) (parent : Option Ilk) (key : List ℕ)
    (why : TakeFault) → IsKept schema → StandsAs schema old levels at → Way schema levels code content below above parent key
    → IfSome old.rows (λ rows. JudgesBy (kept_refusals schema rows code parent key below) (Ok tt)) → TellsSame old mid
    → Takes schema (coming parent code content) mid new (Err why) → RowPlaced schema at code content new after (Err (as_row_fault why))
placed_err schema old mid new levels after at code content below above parent key take.Failed k s w judges same takes = tt
placed_err schema old mid new levels after at code content below above parent key take.Memory k s w judges same takes = tt
placed_err schema old mid new levels after at code content below above parent key take.Twice k s w judges same takes =
    let o = on_rows schema old levels at code content below above parent key s w in
    let r : Row = row_at schema.types at.path code content in
    let got : IsTwice schema at.rows (coming parent code content) mid new =
    take_told schema at.rows (coming parent code content) mid new (λ rows. IsTwice schema rows (coming parent code content) mid new) (same.rows ∙ s.rows) takes in
    let t : IsTwice schema at.rows r mid new = subst (λ (q : Option Ilk). IsTwice schema at.rows (coming q code content) mid new) o.parent_is got in
    let none = judged_passed schema old levels at code content below above parent key k s w judges in (
      tables_agree schema at.rows (behind schema at.rows at.free r) (row_below schema at code) (rows_above schema at code) r k o.up.siblings refl (root_alone schema at code k)
          ∙ first_none (kept_refusals schema at.rows code r.parent (row_key schema.types r) (option_map (level_kept schema.types) (row_below schema at code))) (behind schema at.rows at.free r) none
          ∙ ap (λ (b : Bool). first_that_holds ((not b, codes "NI") ∷ (nat_lt at.free (load_need schema at.rows r), codes "+R") ∷ [])) t.entries,
      t.same.rows ∙ same.rows ∙ s.rows,
      t.same.free ∙ same.free ∙ s.free,
    )
placed_err schema old mid new levels after at code content below above parent key (take.NoRoom need) k s w judges same takes =
    let o = on_rows schema old levels at code content below above parent key s w in
    let r : Row = row_at schema.types at.path code content in
    let got : HasNoRoom schema at.rows (coming parent code content) need mid new =
    take_told schema at.rows (coming parent code content) mid new (λ rows. HasNoRoom schema rows (coming parent code content) need mid new) (same.rows ∙ s.rows) takes in
    let t : HasNoRoom schema at.rows r need mid new = subst (λ (q : Option Ilk). HasNoRoom schema at.rows (coming q code content) need mid new) o.parent_is got in
    let none = judged_passed schema old levels at code content below above parent key k s w judges in
    let free : mid.free ≡ at.free = same.free ∙ s.free in
    let less : at.free < load_need schema at.rows r = subst (λ (n : ℕ). n < load_need schema at.rows r) free (subst (λ (n : ℕ). mid.free < n) t.need_is t.short) in (
      tables_agree schema at.rows (behind schema at.rows at.free r) (row_below schema at code) (rows_above schema at code) r k o.up.siblings refl (root_alone schema at code k)
          ∙ first_none (kept_refusals schema at.rows code r.parent (row_key schema.types r) (option_map (level_kept schema.types) (row_below schema at code))) (behind schema at.rows at.free r) none
          ∙ ap (λ (b : Bool). first_that_holds ((not b, codes "NI") ∷ (nat_lt at.free (load_need schema at.rows r), codes "+R") ∷ [])) t.entries
          ∙ ap (λ (b : Bool). first_that_holds ((b, codes "+R") ∷ [])) (lt-ltb at.free (load_need schema at.rows r) less),
      t.same.rows ∙ same.rows ∙ s.rows,
      t.same.free ∙ same.free ∙ s.free,
    )

-- ---- what a record says is the row that stands

pub said_is : (types : List SegType) (path : List Row) (fields : List (List ℕ)) (code : ℕ) (content : List ℕ) → code_said types fields ≡ Some code → content_said types fields ≡ Some content
    → row_said types path fields ≡ row_at types path code content
said_is types path fields code content e f =
    ap (λ (o : Option ℕ). coming (first_name (parent_path types path (unwrap_or o 0))) (unwrap_or o 0) (unwrap_or (content_said types fields) [])) e
    ∙ ap (λ (o : Option (List ℕ)). coming (first_name (parent_path types path code)) code (unwrap_or o [])) f

pub row_did : (schema : Schema) (at : Standing) (fields : List (List ℕ)) (said : Said) (new : TakerView) (levels : List Level) (result : Result (Unit {0}) RowFault)
    → IsSaid schema.types fields said → RowPlaced schema at said.code said.content new levels result → RowDid schema at fields new levels result
row_did schema at fields said new levels (Err row.Failed) i p = tt
row_did schema at fields said new levels (Err row.Memory) i p = tt
row_did schema at fields said new levels (Err (row.Broken rule)) i p = (
  first_none (text_refusals schema.types fields) (row_refusals schema at.rows at.free (row_said schema.types at.path fields)) i.kept
      ∙ ap (λ (r : Row). first_that_holds (row_refusals schema at.rows at.free r)) (said_is schema.types at.path fields said.code said.content i.code i.content) ∙ p.0,
  p.1,
  p.2,
)
row_did schema at fields said new levels (Ok done) i p =
    let e = said_is schema.types at.path fields said.code said.content i.code i.content in (
      p.0,
      record {
        kept = first_none (text_refusals schema.types fields) (row_refusals schema at.rows at.free (row_said schema.types at.path fields)) i.kept
            ∙ ap (λ (r : Row). first_that_holds (row_refusals schema at.rows at.free r)) e ∙ p.1.kept;
        said = p.1.said_is ∙ ap (λ (r : Row). with_name r p.0.row.name) (sym e);
        new = p.1.new;
        need = subst (λ (r : Row). at.free ≤ p.0.free + load_need schema at.rows r) (sym e) p.1.need;
      },
      p.2,
    )
