use Rattle.std.proofs.Common.{◌≡◌, ◌<◌, length, map, get_or, sym, ap, ◌∙◌, arith}
use Rattle.std.proofs.lemmas.List.{get_or-map, length-map, map-set}
use Rattle.std.proofs.Math.Seq.{map-set_same}
use Rattle.lh_bucket.specs.PlainMap.{reply, after}
use Rattle.lh_bucket.specs.Bucket.{Seen, content, verdict}
use Rattle.lh_core.specs.World.{no_bucket}
use Rattle.lh_addr.specs.Fnv.{code_of}
use Rattle.lh_bucket.specs.Call.{key_of}
use Rattle.lh_core.proofs.Logs.Aiming.{some_filled}
use Rattle.lh_core.proofs.Records.Placing.{act_here, act_reply, act_placed, act_row}
use Rattle.lh_core.specs.Control.{control_state}
use Rattle.lh_bucket.specs.Answer.{Answered}
use Rattle.lh_core.proofs.row.serve.Goals as goal

pub serve-requires-clause-here : goal.serve-requires-clause-here
serve-requires-clause-here g c =
    let row = map g.B.Bucket.seen c.args.buckets.now.items in
    let i = c.args.act.now.bucket in
    let lt : i < length c.args.buckets.now.items =
    omega (
      arith,
      c.requires.act.aim.within,
      c.requires.world.row.all,
      length-map c.args.buckets.now.items g.B.Bucket.seen,
    ) in
    let is : g.B.Bucket.seen c.index_mut-bucket.result.now ≡ get_or row i no_bucket =
    ap g.B.Bucket.seen c.index_mut-bucket.ensures.value
    ∙ sym (get_or-map g.B.Bucket.seen c.args.buckets.now.items i _ no_bucket lt) in
    ap (λ (x : Seen). verdict x.head (code_of (key_of c.args.act.now.call.now)) c.args.act.now.level) is
    ∙ act_here c.linear_hashing.ensures c.args.control.now.config c.args.control.now.filled.buckets row
    c.requires.world.row c.requires.world.sound.some
    (some_filled c.linear_hashing.ensures c.args.control.now.config (control_state c.args.control.now)
    c.requires.world.sound) c.args.act.now.call.now c.args.act.now.level i c.requires.act.aim
    c.requires.act.level

pub returns-in-Ok-clause-row : goal.returns-in-Ok-clause-row
returns-in-Ok-clause-row g c =
    let row = map g.B.Bucket.seen c.args.buckets.now.items in
    let i = c.args.act.now.bucket in
    let lt : i < length c.args.buckets.now.items =
    omega (
      arith,
      c.requires.act.aim.within,
      c.requires.world.row.all,
      length-map c.args.buckets.now.items g.B.Bucket.seen,
    ) in
    let is : g.B.Bucket.seen c.index_mut-bucket.result.now ≡ get_or row i no_bucket =
    ap g.B.Bucket.seen c.index_mut-bucket.ensures.value
    ∙ sym (get_or-map g.B.Bucket.seen c.args.buckets.now.items i _ no_bucket lt) in
    rw map-set
    (act_row c.linear_hashing.ensures c.args.control.now.config c.args.control.now.filled.buckets row
    c.requires.world.row c.requires.world.sound.some
    (some_filled c.linear_hashing.ensures c.args.control.now.config (control_state c.args.control.now)
    c.requires.world.sound) c.args.act.now.call.now c.args.act.now.level i c.requires.act.aim
    c.requires.act.level
    (g.B.Bucket.seen c.serve.new.self) (c.serve.ensures.head ∙ ap (λ (x : Seen). x.head) is)
    c.len.ensures.kept.distinct)

pub returns-in-Ok-clause-reply : goal.returns-in-Ok-clause-reply
returns-in-Ok-clause-reply g c = λ m p.
    let row = map g.B.Bucket.seen c.args.buckets.now.items in
    let i = c.args.act.now.bucket in
    let lt : i < length c.args.buckets.now.items =
    omega (
      arith,
      c.requires.act.aim.within,
      c.requires.world.row.all,
      length-map c.args.buckets.now.items g.B.Bucket.seen,
    ) in
    let is : g.B.Bucket.seen c.index_mut-bucket.result.now ≡ get_or row i no_bucket =
    ap g.B.Bucket.seen c.index_mut-bucket.ensures.value
    ∙ sym (get_or-map g.B.Bucket.seen c.args.buckets.now.items i _ no_bucket lt) in
    c.reply.ensures.value ∙ ap (λ (x : Answered). x.reply) c.in-Ok.ensures.answer
    ∙ ap (λ x. reply (content x) c.args.act.now.call.now) is
    ∙ act_reply c.linear_hashing.ensures c.args.control.now.config c.args.control.now.filled.buckets row
    c.requires.world.row c.requires.world.sound.some
    (some_filled c.linear_hashing.ensures c.args.control.now.config (control_state c.args.control.now)
    c.requires.world.sound) c.args.act.now.call.now c.args.act.now.level i c.requires.act.aim
    c.requires.act.level m p

pub returns-in-Ok-clause-stands : goal.returns-in-Ok-clause-stands
returns-in-Ok-clause-stands g c = λ m p.
    let row = map g.B.Bucket.seen c.args.buckets.now.items in
    let i = c.args.act.now.bucket in
    let lt : i < length c.args.buckets.now.items =
    omega (
      arith,
      c.requires.act.aim.within,
      c.requires.world.row.all,
      length-map c.args.buckets.now.items g.B.Bucket.seen,
    ) in
    let is : g.B.Bucket.seen c.index_mut-bucket.result.now ≡ get_or row i no_bucket =
    ap g.B.Bucket.seen c.index_mut-bucket.ensures.value
    ∙ sym (get_or-map g.B.Bucket.seen c.args.buckets.now.items i _ no_bucket lt) in
    rw map-set
    (act_placed c.linear_hashing.ensures c.args.control.now.config c.args.control.now.filled.buckets row
    c.requires.world.row c.requires.world.sound.some
    (some_filled c.linear_hashing.ensures c.args.control.now.config (control_state c.args.control.now)
    c.requires.world.sound) c.args.act.now.call.now c.args.act.now.level i c.requires.act.aim
    c.requires.act.level
    m (g.B.Bucket.seen c.serve.new.self) p
    (c.in-Ok.ensures.content ∙ ap (λ x. after (content x) c.args.act.now.call.now) is))

pub returns-in-Err-clause-row : goal.returns-in-Err-clause-row
returns-in-Err-clause-row g c =
    rw
    (map-set_same g.B.Bucket.seen c.args.buckets.now.items c.args.act.now.bucket c.serve.new.self
    c.index_mut-bucket.result.now (c.in-Err.ensures.err ∙ ap g.B.Bucket.seen c.index_mut-bucket.ensures.value))
    c.requires.world.row

pub returns-in-Err-clause-unchanged : goal.returns-in-Err-clause-unchanged
returns-in-Err-clause-unchanged g c =
    map-set_same g.B.Bucket.seen c.args.buckets.now.items c.args.act.now.bucket c.serve.new.self
    c.index_mut-bucket.result.now (c.in-Err.ensures.err ∙ ap g.B.Bucket.seen c.index_mut-bucket.ensures.value)
