use Rattle.std.proofs.Common.{◌≡◌, ◌∙◌, ℕ, ap, sym, arith}
use Rattle.hal_base.specs.declared.pages.SetId.{SetId}
use Rattle.data_set_pairs.specs.declared.place.PagePlace.{PagePlace}
use Rattle.data_set_pairs.specs.Image.{page_at}
use Rattle.data_set_pairs.proofs.ScanSteps.{scanned_page}
use Rattle.data_set_pairs.proofs.scan.take_up.Goals as goal

pub returns : goal.returns
returns c =
    let head = c.head_of-head.result in
    let p : PagePlace = record { set = head.set; page = head.page; block = c.args.n } in
    let same : p ≡ page_at c.args.n c.args.block.now = ap (λ (s : SetId). record { set = s; page = head.page; block = c.args.n }) c.head_of-head.ensures.set ∙ ap (λ (page : ℕ). record { set = (page_at c.args.n c.args.block.now).set; page = page; block = c.args.n }) c.head_of-head.ensures.page in
    record {
      taken = λ blocks old. scanned_page c.args.indexes c.args.states.now c.args.n c.args.block.now blocks c.args.table.now.pages.items c.push-2.new.self.items c.args.table.now.free.items p (sym c.is_free.ensures ∙ c.if-is_free.false) (sym c.is_live.ensures ∙ c.if-not-is_live.false) same (record { part = omega arith; number = omega arith; letter = omega arith }) (omega arith) c.in_ok-push-2.ensures.items old;
    }
