use Rattle.std.proofs.Common.{◌≡◌, true, false, sym, ◌∙◌}
use Rattle.lh_image.specs.Faults.{bad_bucket, bad_kind, bad_level, bad_used}
use Rattle.lh_image.proofs.Looking.Steps.{four_0, four_1, four_2, four_3, four_4, level_known, test_is}
use Rattle.lh_image.proofs.image.walk.fault_of_head.Goals as goal

pub returns-then-has_bad_kind : goal.returns-then-has_bad_kind
returns-then-has_bad_kind c = let t = test_is c.args.bytes.now c.args.header.now c.args.root.now c.requires.opened in
    four_1 _ _ _ _ _ _ _ _
    (t bad_kind c.args.number c.args.head.now true c.requires.head
    (sym c.if-has_bad_kind.true ∙ c.has_bad_kind.ensures))

pub returns-then-has_bad_bucket : goal.returns-then-has_bad_bucket
returns-then-has_bad_bucket c = let t = test_is c.args.bytes.now c.args.header.now c.args.root.now c.requires.opened in
    four_2 _ _ _ _ _ _ _ _
    (t bad_kind c.args.number c.args.head.now false c.requires.head
    (sym c.if-has_bad_kind.false ∙ c.has_bad_kind.ensures))
    (t bad_bucket c.args.number c.args.head.now true c.requires.head
    (sym c.if-has_bad_bucket.true ∙ c.has_bad_bucket.ensures))

pub returns-then-has_bad_level : goal.returns-then-has_bad_level
returns-then-has_bad_level c = let t = test_is c.args.bytes.now c.args.header.now c.args.root.now c.requires.opened in
    let own : false ≡ bad_bucket c.args.header.now c.args.number c.args.head.now =
    sym c.if-has_bad_bucket.false ∙ c.has_bad_bucket.ensures in
    four_3 _ _ _ _ _ _ _ _
    (t bad_kind c.args.number c.args.head.now false c.requires.head
    (sym c.if-has_bad_kind.false ∙ c.has_bad_kind.ensures))
    (t bad_bucket c.args.number c.args.head.now false c.requires.head own)
    (t bad_level c.args.number c.args.head.now true c.requires.head
    (level_known c.args.header.now c.args.number c.args.head.now true own
    (sym c.if-has_bad_level.true ∙ c.has_bad_level.ensures c.args.number)))

pub returns-then-has_bad_used : goal.returns-then-has_bad_used
returns-then-has_bad_used c = let t = test_is c.args.bytes.now c.args.header.now c.args.root.now c.requires.opened in
    let own : false ≡ bad_bucket c.args.header.now c.args.number c.args.head.now =
    sym c.if-has_bad_bucket.false ∙ c.has_bad_bucket.ensures in
    four_4 _ _ _ _ _ _ _ _
    (t bad_kind c.args.number c.args.head.now false c.requires.head
    (sym c.if-has_bad_kind.false ∙ c.has_bad_kind.ensures))
    (t bad_bucket c.args.number c.args.head.now false c.requires.head own)
    (t bad_level c.args.number c.args.head.now false c.requires.head
    (level_known c.args.header.now c.args.number c.args.head.now false own
    (sym c.if-has_bad_level.false ∙ c.has_bad_level.ensures c.args.number)))
    (t bad_used c.args.number c.args.head.now true c.requires.head
    (sym c.if-has_bad_used.true ∙ c.has_bad_used.ensures c.args.number))

pub returns : goal.returns
returns c = let t = test_is c.args.bytes.now c.args.header.now c.args.root.now c.requires.opened in
    let own : false ≡ bad_bucket c.args.header.now c.args.number c.args.head.now =
    sym c.if-has_bad_bucket.false ∙ c.has_bad_bucket.ensures in
    four_0 _ _ _ _ _ _ _ _
    (t bad_kind c.args.number c.args.head.now false c.requires.head
    (sym c.if-has_bad_kind.false ∙ c.has_bad_kind.ensures))
    (t bad_bucket c.args.number c.args.head.now false c.requires.head own)
    (t bad_level c.args.number c.args.head.now false c.requires.head
    (level_known c.args.header.now c.args.number c.args.head.now false own
    (sym c.if-has_bad_level.false ∙ c.has_bad_level.ensures c.args.number)))
    (t bad_used c.args.number c.args.head.now false c.requires.head
    (sym c.if-has_bad_used.false ∙ c.has_bad_used.ensures c.args.number))
