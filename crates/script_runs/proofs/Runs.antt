-- Lists of events, one after another: runs, lines, texts and stops join.
use Rattle.std.proofs.Common.{◌≡◌, ⊎_elim, inl, inr, ℕ, ◌+◌, ◌-◌, ◌≤◌, Bool, true, false, MatchBool, List, [], ◌∷◌, ◌++◌, length, Option, None, Some, refl, sym, ap, ◌∙◌, subst, arith, append_assoc, append-nil}
use Rattle.std.specs.Io.KnownBytes.{Appends}
use Rattle.script_runs.specs.Language.{Step, Language, IsRun, Speaks, state_after, least_after, FirstFree, text_of, IsOf, AreOnLines}
use Rattle.script_runs.specs.Stops.{Keeping, IsStop, IsOnSite}

IsRun-weaker : {S : Type 0} (language : Language S) (s : S) (m n : ℕ) (es : List (Step S)) → m ≤ n → IsRun language s n es → IsRun language s m es
IsRun-weaker language s m n [] le run = tt
IsRun-weaker language s m n (e ∷ es) le run = (omega (arith, run.0, le), run.1, run.2)

pub IsRun-append : {S : Type 0} (language : Language S) (s : S) (m : ℕ) (xs ys : List (Step S)) (n : ℕ) → IsRun language s m xs → least_after language s m xs ≤ n → IsRun language (state_after s xs) n ys → IsRun language s m (xs ++ ys)
IsRun-append language s m [] ys n run le more = IsRun-weaker language s m n ys le more
IsRun-append language s m (x ∷ xs) ys n run le more = (run.0, run.1, IsRun-append language x.event.after (x.event.asked.free - language.need s x.event) xs ys n run.2 le more)

pub Speaks-append : {S : Type 0} (language : Language S) (s : S) (xs ys : List (Step S)) → Speaks language s xs → Speaks language (state_after s xs) ys → Speaks language s (xs ++ ys)
Speaks-append language s [] ys first more = more
Speaks-append language s (x ∷ xs) ys first more = (first.0, Speaks-append language x.event.after xs ys first.1 more)

pub state_after-append : {S : Type 0} (s : S) (xs ys : List (Step S)) → state_after s (xs ++ ys) ≡ state_after (state_after s xs) ys
state_after-append s [] ys = refl
state_after-append s (x ∷ xs) ys = state_after-append x.event.after xs ys

least_weaker : {S : Type 0} (language : Language S) (s : S) (m n : ℕ) (ys : List (Step S)) (k : ℕ) → m ≤ n → least_after language s n ys ≤ k → least_after language s m ys ≤ k
least_weaker language s m n [] k le more = omega (arith, le, more)
least_weaker language s m n (y ∷ ys) k le more = more

pub least_after-append : {S : Type 0} (language : Language S) (s : S) (m : ℕ) (xs ys : List (Step S)) (n k : ℕ) → least_after language s m xs ≤ n → least_after language (state_after s xs) n ys ≤ k → least_after language s m (xs ++ ys) ≤ k
least_after-append language s m [] ys n k le more = least_weaker language s m n ys k le more
least_after-append language s m (x ∷ xs) ys n k le more = least_after-append language x.event.after (x.event.asked.free - language.need s x.event) xs ys n k le more

pub text_of-append : {S : Type 0} (xs ys : List (Step S)) → text_of (xs ++ ys) ≡ text_of xs ++ text_of ys
text_of-append [] ys = refl
text_of-append (x ∷ xs) ys = ap (λ (l : List ℕ). x.text ++ l) (text_of-append xs ys) ∙ sym (append_assoc x.text (text_of xs) (text_of ys))

-- the first number of free blocks
pub FirstFree-append : {S : Type 0} (m n : ℕ) (xs ys : List (Step S)) → FirstFree m xs → (xs ≡ [] → n ≡ m) → FirstFree n ys → FirstFree m (xs ++ ys)
FirstFree-append m n [] [] first still more = tt
FirstFree-append m n [] (y ∷ ys) first still more = more ∙ still refl
FirstFree-append m n (x ∷ xs) ys first still more = first

-- ---- lines

MatchBool-map : (b : Bool) (P P' Q Q' : Type 0) → (P → P') → (Q → Q') → MatchBool b P Q → MatchBool b P' Q'
MatchBool-map true P P' Q Q' f g h = f h
MatchBool-map false P P' Q Q' f g h = g h

pub on_lines-append : {S : Type 0} (s : Option ℕ) (xs : List (List ℕ)) (n : ℕ) (es : List (Step S)) (ys : List (List ℕ)) (fs : List (Step S)) (left : List (List ℕ)) → AreOnLines s xs n es [] → AreOnLines s ys (n + length xs) fs left → AreOnLines s (xs ++ ys) n (es ++ fs) left
on_lines-append s [] n [] ys fs left p q = let P : ℕ → Type 0 = λ k. AreOnLines s ys k fs left in let e : n + 0 ≡ n = omega arith in subst P e q
on_lines-append s (l ∷ ls) n [] ys fs left p q = cc
on_lines-append s [] n (e ∷ es) ys fs left p q = absurd p
on_lines-append s (l ∷ ls) n (e ∷ es) ys fs left p q =
    let P : ℕ → Type 0 = λ k. AreOnLines s ys k fs left in
    let same : n + length (l ∷ ls) ≡ n + 1 + length ls = omega arith in (
      p.0,
      MatchBool-map e.event.done (AreOnLines s ls (n + 1) es []) (AreOnLines s (ls ++ ys) (n + 1) (es ++ fs) left) (AreOnLines s (l ∷ ls) n es []) (AreOnLines s (l ∷ ls ++ ys) n (es ++ fs) left)
          (λ h. on_lines-append s ls (n + 1) es ys fs left h (subst P same q))
          (λ h. on_lines-append s (l ∷ ls) n es ys fs left h q) p.1,
    )

pub on_lines-more : {S : Type 0} (s : Option ℕ) (xs : List (List ℕ)) (n : ℕ) (es : List (Step S)) (left more : List (List ℕ)) → AreOnLines s xs n es left → AreOnLines s (xs ++ more) n es (left ++ more)
on_lines-more s xs n [] left more p = ap (λ (l : List (List ℕ)). l ++ more) p
on_lines-more s [] n (e ∷ es) left more p = absurd p
on_lines-more s (l ∷ ls) n (e ∷ es) left more p = (
  p.0,
  MatchBool-map e.event.done (AreOnLines s ls (n + 1) es left) (AreOnLines s (ls ++ more) (n + 1) es (left ++ more)) (AreOnLines s (l ∷ ls) n es left) (AreOnLines s (l ∷ ls ++ more) n es (left ++ more))
      (on_lines-more s ls (n + 1) es left more) (on_lines-more s (l ∷ ls) n es left more) p.1,
)

none_left : {S : Type 0} (s : Option ℕ) (l : List ℕ) (n : ℕ) (es : List (Step S)) → AreOnLines s [] n es (l ∷ []) → ⊥
none_left s l n [] p = cc
none_left s l n (e ∷ es) p = p

-- a line that isn't done is taken again
pub on_lines-again : {S : Type 0} (s : Option ℕ) (l : List ℕ) (n : ℕ) (es fs : List (Step S)) (left : List (List ℕ)) → AreOnLines s (l ∷ []) n es (l ∷ []) → AreOnLines s (l ∷ []) n fs left → AreOnLines s (l ∷ []) n (es ++ fs) left
on_lines-again s l n [] fs left p q = q
on_lines-again s l n (e ∷ es) fs left p q = (
  p.0,
  MatchBool-map e.event.done (AreOnLines s [] (n + 1) es (l ∷ [])) (AreOnLines s [] (n + 1) (es ++ fs) left) (AreOnLines s (l ∷ []) n es (l ∷ [])) (AreOnLines s (l ∷ []) n (es ++ fs) left)
      (λ h. absurd (none_left s l (n + 1) es h)) (λ h. on_lines-again s l n es fs left h q) p.1,
)

pub on_lines-one : {S : Type 0} (s : Option ℕ) (l : List ℕ) (n : ℕ) (e : Step S) (finished : Bool) (left : List (List ℕ)) → IsOf s n l e.event.asked → e.event.done ≡ finished → MatchBool finished (left ≡ []) (left ≡ l ∷ []) → AreOnLines s (l ∷ []) n (e ∷ []) left
on_lines-one s l n e finished left of is h = (of, let P : Bool → Type 0 = λ b. MatchBool b (left ≡ []) (left ≡ l ∷ []) in subst P (sym is) h)

-- ---- stops

-- before the first of more events
stop_starts : {S : Type 0} (keeping : Keeping S) (s : S) (before : List ℕ) (ys : List (Step S)) (blocks : List (List ℕ)) (words : List ℕ) → keeping.holds blocks s × (words ≡ before) → IsStop keeping s before ys blocks words
stop_starts keeping s before [] blocks words at = at
stop_starts keeping s before (y ∷ ys) blocks words at = inl (inl at)

-- what a stop among some events leaves, one among more of them does
pub stop-front : {S : Type 0} (keeping : Keeping S) (s : S) (before : List ℕ) (xs ys : List (Step S)) (blocks : List (List ℕ)) (words : List ℕ) → IsStop keeping s before xs blocks words → IsStop keeping s before (xs ++ ys) blocks words
stop-front keeping s before [] ys blocks words at = stop_starts keeping s before ys blocks words at
stop-front keeping s before (x ∷ xs) ys blocks words at = ⊎_elim (λ here. inl here) (λ later. inr (stop-front keeping x.event.after (before ++ x.text) xs ys blocks words later)) at

pub stop-append : {S : Type 0} (keeping : Keeping S) (s : S) (before : List ℕ) (xs ys : List (Step S)) (blocks : List (List ℕ)) (words : List ℕ) → IsStop keeping (state_after s xs) (before ++ text_of xs) ys blocks words → IsStop keeping s before (xs ++ ys) blocks words
stop-append keeping s before [] ys blocks words at = let P : List ℕ → Type 0 = λ b. IsStop keeping s b ys blocks words in subst P (append-nil before) at
stop-append keeping s before (x ∷ xs) ys blocks words at =
    let P : List ℕ → Type 0 = λ b. IsStop keeping (state_after x.event.after xs) b ys blocks words in
    inr (stop-append keeping x.event.after (before ++ x.text) xs ys blocks words (subst P (sym (append_assoc before x.text (text_of xs))) at))

-- ---- moments

-- over a history that has grown
pub on_site-later : {S : Type 0} (keeping : Keeping S) (past at : ℕ → List (List ℕ) → List ℕ → Type 0) (low high top : ℕ) (s : S) (xs : List (Step S)) → high ≤ top → ((m : ℕ) (blocks : List (List ℕ)) (words : List ℕ) → m ≤ high → at m blocks words → past m blocks words) → IsOnSite keeping past low high s xs → IsOnSite keeping at low top s xs
on_site-later keeping past at low high top s [] le same on = tt
on_site-later keeping past at low high top s (x ∷ xs) le same on =
    (on.0, on.1, omega (arith, on.2, le), λ blocks words left. on.3 blocks words (same on.0 blocks words on.2 left), on_site-later keeping past at on.0 high top x.event.after xs le same on.4)

on_site_lower : {S : Type 0} (keeping : Keeping S) (at : ℕ → List (List ℕ) → List ℕ → Type 0) (low mid high : ℕ) (s : S) (ys : List (Step S)) → low ≤ mid → IsOnSite keeping at mid high s ys → IsOnSite keeping at low high s ys
on_site_lower keeping at low mid high s [] le on = tt
on_site_lower keeping at low mid high s (y ∷ ys) le on = (on.0, omega (arith, le, on.1), on.2, on.3, on.4)

-- the first events up to a moment, and then more from there on
pub on_site-append : {S : Type 0} (keeping : Keeping S) (at : ℕ → List (List ℕ) → List ℕ → Type 0) (low mid high : ℕ) (s : S) (xs ys : List (Step S)) → low ≤ mid → mid ≤ high → IsOnSite keeping at low mid s xs → IsOnSite keeping at mid high (state_after s xs) ys → IsOnSite keeping at low high s (xs ++ ys)
on_site-append keeping at low mid high s [] ys from to on more = on_site_lower keeping at low mid high s ys from more
on_site-append keeping at low mid high s (x ∷ xs) ys from to on more =
    (on.0, on.1, omega (arith, on.2, to), on.3, on_site-append keeping at on.0 mid high x.event.after xs ys on.2 to on.4 more)

-- ---- what was said

pub appends_some : (old new : Option (List ℕ)) (text before : List ℕ) → Appends old new text → old ≡ Some before → new ≡ Some (before ++ text)
appends_some None new text before appends is = cc
appends_some (Some xs) None text before appends is = absurd appends
appends_some (Some xs) (Some ys) text before appends is = let same : xs ≡ before = cc in ap (λ (l : List ℕ). Some l) (appends ∙ ap (λ (l : List ℕ). l ++ text) same)
