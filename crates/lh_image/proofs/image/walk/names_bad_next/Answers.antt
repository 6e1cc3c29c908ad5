use Rattle.std.proofs.Common.{false, not, true, eqb, ap, ◌∙◌}
use Rattle.lh_page.specs.declared.head.PageHead.{PageHead}
use Rattle.lh_image.specs.Layout.{view_of}
use Rattle.lh_image.specs.View.{bucket}
use Rattle.lh_image.proofs.Looking.Steps.{next_high, next_is, next_low, next_none, next_other}
use Rattle.lh_image.proofs.image.walk.names_bad_next.Goals.{then-head-header-via-then-head-header}
use Rattle.lh_image.proofs.image.walk.names_bad_next.Goals.{then-head-header-via-else-head-header+then-head-header-2}
use Rattle.lh_image.proofs.image.walk.names_bad_next.Goals as goal

pub returns-then-head-eq0 : goal.returns-then-head-eq0
returns-then-head-eq0 c =
    next_is c.args.bytes.now c.args.header.now c.args.root.now c.requires.opened c.args.number c.args.head.now false
    c.requires.head
    (next_none c.args.head.now.next c.args.header.now.buckets c.args.header.now.pages c.args.head.now.bucket
    (bucket (view_of c.args.bytes.now) c.args.head.now.next) c.if-head-eq0.true)

pub returns-then-head-header : goal.returns-then-head-header
returns-then-head-header c =
    next_is c.args.bytes.now c.args.header.now c.args.root.now c.requires.opened c.args.number c.args.head.now true
    c.requires.head
    (elim c.then-head-header.branch [
      | then-head-header-via-then-head-header w ↦
          next_low c.args.head.now.next c.args.header.now.buckets c.args.header.now.pages c.args.head.now.bucket
          (bucket (view_of c.args.bytes.now) c.args.head.now.next) c.if-head-eq0.false w.if-head-header.true
      | then-head-header-via-else-head-header+then-head-header-2 w ↦
          next_high c.args.head.now.next c.args.header.now.buckets c.args.header.now.pages c.args.head.now.bucket
          (bucket (view_of c.args.bytes.now) c.args.head.now.next) c.if-head-eq0.false w.if-head-header-2.true
    ])

pub returns : goal.returns
returns c =
    next_is c.args.bytes.now c.args.header.now c.args.root.now c.requires.opened c.args.number c.args.head.now
    (not (eqb c.head_at.result.bucket c.args.head.now.bucket)) c.requires.head
    (ap (λ (h : PageHead). not (eqb h.bucket c.args.head.now.bucket)) c.head_at.ensures
    ∙ next_other c.args.head.now.next c.args.header.now.buckets c.args.header.now.pages c.args.head.now.bucket
    (bucket (view_of c.args.bytes.now) c.args.head.now.next) c.if-head-eq0.false c.if-head-header.false
    c.if-head-header-2.false)
