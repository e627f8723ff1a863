use Rattle.std.proofs.Common.{◌≡◌, ◌∙◌, true, false, length, sym, refl, rules}
use Rattle.volume_head.proofs.Fronts.{read_is, mark_read, cut_head, whole_head}
use Rattle.volume_head.proofs.read.read_head.Goals as goal

pub returns-then-not-is_marked-clause-told : goal.returns-then-not-is_marked-clause-told
returns-then-not-is_marked-clause-told g c = λ y told marked.
    let long : length c.read_at.new.buf ≡ 4096 = search rules in
    let read = read_is 0 c.in_ok-read.read c.read_at.new.buf (g.T.Site.image c.args.site.now) y told c.in_ok-read.ensures.bytes long in
    let same = mark_read c.in_ok-read.read c.read_at.new.buf y read c.if-read-lt8.false in
    let differs : false ≡ true = c.if-not-is_marked.ensures.1 (same ∙ marked) in
    cc

pub returns-then-read-lt-BLOCK-clause-told : goal.returns-then-read-lt-BLOCK-clause-told
returns-then-read-lt-BLOCK-clause-told g c = λ y told.
    let long : length c.read_at.new.buf ≡ 4096 = search rules in
    let read = read_is 0 c.in_ok-read.read c.read_at.new.buf (g.T.Site.image c.args.site.now) y told c.in_ok-read.ensures.bytes long in
    let marked = sym (mark_read c.in_ok-read.read c.read_at.new.buf y read c.if-read-lt8.false) ∙ c.if-not-is_marked.ensures.0 refl in
    (marked, cut_head c.in_ok-read.read c.read_at.new.buf y read c.in_ok-read.ensures.within c.if-read-lt-BLOCK.true)

pub returns-clause-told : goal.returns-clause-told
returns-clause-told g c = λ y told.
    let long : length c.read_at.new.buf ≡ 4096 = search rules in
    let read = read_is 0 c.in_ok-read.read c.read_at.new.buf (g.T.Site.image c.args.site.now) y told c.in_ok-read.ensures.bytes long in
    let marked = sym (mark_read c.in_ok-read.read c.read_at.new.buf y read c.if-read-lt8.false) ∙ c.if-not-is_marked.ensures.0 refl in
    (marked, whole_head c.in_ok-read.read c.read_at.new.buf y read long c.if-read-lt-BLOCK.false)
