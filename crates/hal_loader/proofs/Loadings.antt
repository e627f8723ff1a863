-- Records loaded so far, and one more.
use Rattle.std.proofs.Common.{◌≡◌, ℕ, ◌+◌, List, [], ◌∷◌, ◌++◌, length, Option, Some, None, Ok, Err, refl, sym, ap, subst, ◌∙◌}
use Rattle.std.specs.Prelude.{IfSome, MatchOption, ⊤}
use Rattle.std.proofs.lemmas.List.{append_assoc}
use Rattle.hal_schema.specs.declared.row.Row.{Row}
use Rattle.hal_schema.specs.declared.schema.Schema.{Schema}
use Rattle.hal_loader.specs.Carrying.{StandsAs, Stands, RowDid, HasLoaded, Progress}
use Rattle.hal_loader.specs.Ending.{at_row}
use Rattle.hal_loader.specs.Judging.{IsJudgement}
use Rattle.hal_loader.specs.Loading.{Taken, Loads, AreLoaded, begin, stands_after, stands_after_all, LoadedAll, LoadsText}
use Rattle.hal_loader.specs.Refusals.{Standing}
use Rattle.hal_loader.specs.Taker.{TakerView}
use Rattle.hal_loader.specs.Text.{records_of}
use Rattle.hal_loader.specs.declared.fault.RowFault.{RowFault}
use Rattle.hal_loader.specs.declared.fault.RowFault.TheVariants as row
use Rattle.hal_loader.specs.declared.path.Level.{Level}

loaded_more : (schema : Schema) (at : Standing) (done : List (List (List ℕ))) (taken : List Taken) (fields : List (List ℕ)) (t : Taken)
    → AreLoaded schema at done taken → Loads schema (stands_after_all schema at taken) fields t → AreLoaded schema at (done ++ fields ∷ []) (taken ++ t ∷ [])
loaded_more schema at [] [] fields t h l = (l, tt)
loaded_more schema at [] (u ∷ taken) fields t h l = absurd h
loaded_more schema at (f ∷ done) [] fields t h l = absurd h
loaded_more schema at (f ∷ done) (u ∷ taken) fields t h l = (h.0, loaded_more schema (stands_after schema at u) done taken fields t h.1 l)

after_more : (schema : Schema) (at : Standing) (taken : List Taken) (t : Taken) → stands_after_all schema at (taken ++ t ∷ []) ≡ stands_after schema (stands_after_all schema at taken) t
after_more schema at [] t = refl
after_more schema at (u ∷ taken) t = after_more schema (stands_after schema at u) taken t

pub none_yet : (schema : Schema) (old : TakerView) (levels : List Level) → IfSome old.rows (λ rows. rows ≡ []) → levels ≡ [] → Progress schema old old levels []
none_yet schema old levels empty e = by old.rows refl empty
  where
    by : (o : Option (List Row)) → old.rows ≡ o → IfSome o (λ rows. rows ≡ []) → MatchOption o (old.rows ≡ None) (λ rows. HasLoaded schema old old levels [])
    by None f h = f
    by (Some rows) f h = record {
      taken = [];
      loaded = tt;
      stands = record { rows = f ∙ ap (λ (l : List Row). Some l) h; free = refl; levels_are = e; carried = record { on_path = tt; apart = refl; childless = refl; parents = refl } };
    }

pub stands_now : (schema : Schema) (old now : TakerView) (levels : List Level) (done : List (List (List ℕ))) → Progress schema old now levels done → Stands schema now levels
stands_now schema old now levels done p = by old.rows p
  where
    told : (at : Standing) → StandsAs schema now levels at → Stands schema now levels
    told at s = subst (λ (o : Option (List Row)). MatchOption o ⊤ (λ rows. (at : Standing) × StandsAs schema now levels at)) (sym s.rows) (at, s)

    untold : now.rows ≡ None → Stands schema now levels
    untold e = subst (λ (o : Option (List Row)). MatchOption o ⊤ (λ rows. (at : Standing) × StandsAs schema now levels at)) (sym e) tt

    by : (o : Option (List Row)) → MatchOption o (now.rows ≡ None) (λ rows. HasLoaded schema old now levels done) → Stands schema now levels
    by None h = untold h
    by (Some rows) h = told (stands_after_all schema (begin old.free) h.taken) h.stands

stays_untold : (now new : TakerView) → now.rows ≡ None → MatchOption now.rows (IsJudgement (Ok tt) → new.rows ≡ None) (λ rows. ⊤) → new.rows ≡ None
stays_untold now new e h =
    let t : MatchOption {T = List Row} None (IsJudgement (Ok tt) → new.rows ≡ None) (λ rows. ⊤) = subst (λ (o : Option (List Row)). MatchOption o (IsJudgement (Ok tt) → new.rows ≡ None) (λ rows. ⊤)) e h in
    t tt

pub one_more : (schema : Schema) (old now new : TakerView) (levels after : List Level) (done : List (List (List ℕ))) (fields : List (List ℕ)) → Progress schema old now levels done
    → ((at : Standing) → StandsAs schema now levels at → RowDid schema at fields new after (Ok tt)) → MatchOption now.rows (IsJudgement (Ok tt) → new.rows ≡ None) (λ rows. ⊤)
    → Progress schema old new after (done ++ fields ∷ [])
one_more schema old now new levels after done fields p did untold = by old.rows p
  where
    by : (o : Option (List Row)) → MatchOption o (now.rows ≡ None) (λ rows. HasLoaded schema old now levels done) → MatchOption o (new.rows ≡ None) (λ rows. HasLoaded schema old new after (done ++ fields ∷ []))
    by None h = stays_untold now new h untold
    by (Some rows) h =
        let d = did (stands_after_all schema (begin old.free) h.taken) h.stands in
        record {
          taken = h.taken ++ d.0 ∷ [];
          loaded = loaded_more schema (begin old.free) done h.taken fields d.0 h.loaded d.1;
          stands = subst (λ (s : Standing). StandsAs schema new after s) (sym (after_more schema (begin old.free) h.taken d.0)) d.2;
        }

pub all_loaded : (schema : Schema) (text : List ℕ) (old now : TakerView) (levels : List Level) (done : List (List (List ℕ))) (count : ℕ) → IfSome old.rows (λ rows. rows ≡ [])
    → Progress schema old now levels done → records_of text ≡ done → length done ≡ count → LoadsText schema text old now (Ok count)
all_loaded schema text old now levels done count empty p e n = by old.rows empty p
  where
    by : (o : Option (List Row)) → IfSome o (λ rows. rows ≡ []) → MatchOption o (now.rows ≡ None) (λ rows. HasLoaded schema old now levels done)
        → MatchOption o ⊤ (λ rows. (rows ≡ []) × LoadedAll schema text old now count)
    by None f h = tt
    by (Some rows) f h = (
      f,
      record {
        taken = h.taken;
        loaded = subst (λ (l : List (List (List ℕ))). AreLoaded schema (begin old.free) l h.taken) (sym e) h.loaded;
        count_is = sym n ∙ ap length (sym e);
        rows_now = h.stands.rows;
        free_now = h.stands.free;
      },
    )

pub one_refused : (schema : Schema) (text : List ℕ) (old now new : TakerView) (levels after : List Level) (done : List (List (List ℕ))) (fields : List (List ℕ)) (behind : List (List (List ℕ))) (count : ℕ) (why : RowFault)
    → IfSome old.rows (λ rows. rows ≡ []) → Progress schema old now levels done → records_of text ≡ (done ++ fields ∷ []) ++ behind → length done ≡ count
    → ((at : Standing) → StandsAs schema now levels at → RowDid schema at fields new after (Err why)) → LoadsText schema text old new (Err (at_row count why))
one_refused schema text old now new levels after done fields behind count why empty p e n did = by why old.rows empty p did
  where
    by : (w : RowFault) (o : Option (List Row)) → IfSome o (λ rows. rows ≡ []) → MatchOption o (now.rows ≡ None) (λ rows. HasLoaded schema old now levels done)
        → ((at : Standing) → StandsAs schema now levels at → RowDid schema at fields new after (Err w)) → LoadsText schema text (record old { rows = o }) new (Err (at_row count w))
    by w None f h d = tt
    by row.Failed (Some rows) f h d = f
    by row.Memory (Some rows) f h d = f
    by (row.Broken code) (Some rows) f h d =
        let r = d (stands_after_all schema (begin old.free) h.taken) h.stands in (
          f,
          record {
            before = done;
            fields = fields;
            behind = behind;
            split = e ∙ append_assoc done (fields ∷ []) behind;
            row_is = ap (λ (k : ℕ). k + 1) (sym n);
            taken = h.taken;
            loaded = h.loaded;
            refused = r.0;
            rows_now = r.1;
            free_now = r.2;
          },
        )

pub no_memory : (schema : Schema) (text : List ℕ) (old new : TakerView) (levels : List Level) → IfSome old.rows (λ rows. rows ≡ []) → LoadsText schema text old new (Err (at_row 0 row.Memory))
no_memory schema text old new levels empty = by old.rows empty
  where
    by : (o : Option (List Row)) → IfSome o (λ rows. rows ≡ []) → MatchOption o ⊤ (λ rows. rows ≡ [])
    by None f = tt
    by (Some rows) f = f
