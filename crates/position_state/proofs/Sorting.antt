-- Entries put in the order of their keys one by one, from the last on.
use Rattle.std.proofs.Common.{◌≡◌, ℕ, ◌+◌, true, cond, List, [], ◌∷◌, ◌++◌, Some, map, take, drop, refl, sym, ap, subst, ◌∙◌}
use Rattle.std.specs.Prelude.{insert}
use Rattle.std.specs.Ordering.{is_le}
use Rattle.hal_schema.specs.Keys.{key_cmp}
use Rattle.std.specs.Option.{option_to_list}
use Rattle.std.proofs.lemmas.List.{map-append, take-map, drop-map}
use Rattle.hal_schema.specs.Entry.{Entry, with_entry, in_key_order}
use Rattle.position_state.specs.declared.list_entries.IndexEntry.{IndexEntry}
use Rattle.position_state.specs.Entries.{entry_seen}

-- these entries put into others that are in order
abbrev pub put_into : List Entry → List Entry → List Entry
put_into [] others = others
put_into (entry ∷ entries) others = with_entry entry (put_into entries others)

pub in_order_is : (entries : List Entry) → in_key_order entries ≡ put_into entries []
in_order_is [] = refl
in_order_is (entry ∷ entries) = ap (with_entry entry) (in_order_is entries)

put_last : (entries : List Entry) (last : Entry) (others : List Entry) → put_into (entries ++ last ∷ []) others ≡ put_into entries (with_entry last others)
put_last [] last others = refl
put_last (entry ∷ entries) last others = ap (with_entry entry) (put_last entries last others)

-- the last of those that are left is put in
pub one_put : (all left : List IndexEntry) (entry : IndexEntry) (others : List Entry) → all ≡ left ++ option_to_list (Some entry)
    → put_into (map entry_seen all) others ≡ put_into (map entry_seen left) (with_entry (entry_seen entry) others)
one_put all left entry others e =
    ap (λ (es : List IndexEntry). put_into (map entry_seen es) others) e
    ∙ ap (λ es. put_into es others) (map-append entry_seen left (entry ∷ []))
    ∙ put_last (map entry_seen left) (entry_seen entry) others

insert_seen : (entries : List IndexEntry) (at : ℕ) (entry : IndexEntry) → insert (map entry_seen entries) at (entry_seen entry) ≡ map entry_seen (insert entries at entry)
insert_seen entries at entry =
    ap (λ es. es ++ entry_seen entry ∷ drop at (map entry_seen entries)) (take-map entry_seen at entries)
    ∙ ap (λ es. map entry_seen (take at entries) ++ entry_seen entry ∷ es) (drop-map entry_seen at entries)
    ∙ sym (map-append entry_seen (take at entries) (entry ∷ drop at entries))

pub put_done : (whole : List Entry) (all left : List IndexEntry) (entry : IndexEntry) (entries slice new : List IndexEntry) (at : ℕ)
    → whole ≡ put_into (map entry_seen all) (map entry_seen entries) → all ≡ left ++ option_to_list (Some entry) → slice ≡ entries
    → ((e : Entry) → e.key ≡ entry.key → with_entry e (map entry_seen slice) ≡ insert (map entry_seen slice) at e) → new ≡ insert entries at entry
    → whole ≡ put_into (map entry_seen left) (map entry_seen new)
put_done whole all left entry entries slice new at h a s p n =
    h ∙ one_put all left entry (map entry_seen entries) a
    ∙ ap (put_into (map entry_seen left)) (subst (λ (es : List IndexEntry). with_entry (entry_seen entry) (map entry_seen es) ≡ insert (map entry_seen es) at (entry_seen entry)) s (p (entry_seen entry) refl) ∙ insert_seen entries at entry ∙ ap (λ (es : List IndexEntry). map entry_seen es) (sym n))

pub put_at : (entries : List IndexEntry) (place : ℕ) (x : IndexEntry) (entry : Entry) (key : List ℕ) → entry.key ≡ key
    → with_entry entry (map entry_seen entries) ≡ map entry_seen (take place entries) ++ with_entry entry (map entry_seen (drop place entries))
    → drop place entries ≡ x ∷ drop (place + 1) entries → is_le (key_cmp key x.key) ≡ true → with_entry entry (map entry_seen entries) ≡ insert (map entry_seen entries) place entry
put_at entries place x entry key k h d t =
    h ∙ ap (λ (es : List IndexEntry). map entry_seen (take place entries) ++ with_entry entry (map entry_seen es)) d
    ∙ ap (λ b. map entry_seen (take place entries) ++ cond b (entry ∷ entry_seen x ∷ map entry_seen (drop (place + 1) entries)) (entry_seen x ∷ with_entry entry (map entry_seen (drop (place + 1) entries))))
    (ap (λ ks. is_le (key_cmp ks x.key)) k ∙ t)
    ∙ ap (λ (es : List IndexEntry). map entry_seen (take place entries) ++ entry ∷ map entry_seen es) (sym d)
    ∙ sym (ap (λ es. es ++ entry ∷ drop place (map entry_seen entries)) (take-map entry_seen place entries) ∙ ap (λ es. map entry_seen (take place entries) ++ entry ∷ es) (drop-map entry_seen place entries))
