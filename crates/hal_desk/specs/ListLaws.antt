-- What the taker over one list owes to its trait.
use Rattle.std.proofs.Common.{◌≡◌, ℕ, List, Option, None, Some, refl, ◌∙◌}
use Rattle.hal_base.specs.Stops.{IsTold}
use Rattle.hal_base.proofs.StopLemmas.{not_yet, leaves-then, leaves-now}
use Rattle.script_runs.specs.TakerView.{LeavesTold}
use Rattle.call_runs.specs.declared.state.CallState.{CallState}
use Rattle.hal_desk.specs.Outside.{SiteView, HeldBefore, LeavesImage, list_on}
use Rattle.hal_desk.specs.Lists.{kept_nowhere}

told_is : (told : Option (List ℕ)) (before words : List ℕ) → told ≡ Some before → IsTold told words → words ≡ before
told_is None before words is at = cc
told_is (Some said) before words is at = let same : said ≡ before = cc in at ∙ same

-- what the site leaves now is what is told
abbrev pub TellsNow : SiteView → Type 0
TellsNow site = (bytes text : List ℕ) → site.left_at site.moment bytes text → IsTold site.said text

-- a site of which the list sees this
abbrev seen_site : Option (List ℕ) → ℕ → (ℕ → List ℕ → List ℕ → Type 0) → ℕ → Option (ℕ × ℕ) → SiteView
seen_site said moment at faults room = record { image = None; said = said; moment = moment; left_at = at; disk_faults = 0; say_faults = faults; room = room }

pub leaves_told : (said : Option (List ℕ)) (moment : ℕ) (at : ℕ → List ℕ → List ℕ → Type 0) (faults : ℕ) (room : Option (ℕ × ℕ)) (state : CallState)
    → TellsNow (seen_site said moment at faults room) → LeavesTold kept_nowhere (list_on (seen_site said moment at faults room) state)
leaves_told said moment at faults room state now = record {
  kept = λ start blocks words is left. tt;
  free = λ start blocks words is left. refl;
  said = λ before blocks words is left. told_is said before words is (now left.0 words left.1);
}

pub image_stays : (site : SiteView) → LeavesImage site site
image_stays site = record { image_stays = refl; faults_stay = refl; stops = not_yet site.moment site.left_at (HeldBefore site) }

pub image_then : {a b c : SiteView} → LeavesImage a b → LeavesImage b c → LeavesImage a c
image_then first second = record {
  image_stays = second.image_stays ∙ first.image_stays;
  faults_stay = second.faults_stay ∙ first.faults_stay;
  stops = leaves-then first.stops second.stops (λ bytes words at. leaves-now first.stops (λ x s left. (s, left)) bytes at.0 at.1);
}
