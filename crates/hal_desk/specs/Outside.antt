-- What is seen of the outside of a command, and what a command leaves alone there.
use Rattle.std.specs.Prelude.{◌≡◌, ℕ, List, [], Option, Some, true}
use Rattle.std.specs.Option.{option_map}
use Rattle.hal_base.specs.Stops.{LeavesOnly, Read}
use Rattle.hal_base.specs.declared.site.Site.{Ghosts as Site}
use Rattle.hal_base.specs.declared.source.Source.{Ghosts as Source}
use Rattle.script_runs.specs.Script.{SourceView, source_view}
use Rattle.script_runs.specs.TakerView.{TakerView}
use Rattle.call_runs.specs.declared.state.CallState.{CallState}

-- The image of a site as it reads, and what was said; its clock, and what a stop at each moment might have left; how often
-- its disk and its say failed; how long its image and the said bytes may grow without a fault.
pub record SiteView : Type 1 where
  pub image : Option (List ℕ)
  pub said : Option (List ℕ)
  pub moment : ℕ
  pub left_at : ℕ → List ℕ → List ℕ → Type 0
  pub disk_faults : ℕ
  pub say_faults : ℕ
  pub room : Option (ℕ × ℕ)

-- by what its trait tells of it
abbrev pub site_view : {T : Type 0} → Site T → T → SiteView
site_view tells site = record {
  image = tells.image site;
  said = tells.said site;
  moment = tells.moment site;
  left_at = tells.left_at site;
  disk_faults = tells.disk_faults site;
  say_faults = tells.say_faults site;
  room = tells.room site;
}

pub record Outside : Type 1 where
  pub source : SourceView
  pub site : SiteView

abbrev pub outside : {X Y : Type 0} → Source X → Site Y → X → Y → Outside
outside source_tells site_tells source site = record { source = source_view source_tells source; site = site_view site_tells site }

abbrev pub list_blocks : ℕ
list_blocks = 65536

-- What is seen of a list that keeps no block, on a site on which its replies are said: it has no disk that could fail, and
-- as many blocks free at any time.
abbrev pub list_on : SiteView → CallState → TakerView CallState
list_on site state = record {
  state = Some state;
  free = list_blocks;
  said = site.said;
  moment = site.moment;
  left_at = Read (λ image. []) site.left_at;
  disk_faults = 0;
  say_faults = site.say_faults;
  room = option_map (λ room. room.1) site.room;
  clean = true;
  live = true;
}

-- an image that a stop might have left before
abbrev pub HeldBefore : SiteView → List ℕ → List ℕ → Type 0
HeldBefore old bytes words = (was : List ℕ) × old.left_at old.moment bytes was

-- The image is as it was, no fault of the disk was counted, and a stop since leaves no image but those that one before
-- might have left.
pub record LeavesImage (old new : SiteView) : Type 0 where
  pub image_stays : new.image ≡ old.image
  pub faults_stay : new.disk_faults ≡ old.disk_faults
  pub stops : LeavesOnly old.moment new.moment old.left_at new.left_at (HeldBefore old)

-- nothing was said, and no call of the site was made
pub record Untouched (old new : SiteView) : Type 0 where
  pub said : new.said ≡ old.said
  pub moment : new.moment ≡ old.moment
  pub say_faults : new.say_faults ≡ old.say_faults
