use Rattle.std.proofs.Common.{◌≡◌, ℕ, ◌<◌, List, length, map, sym, ap, subst, ◌∙◌}
use Rattle.std.proofs.lemmas.List.{length-map}
use Rattle.std.proofs.lemmas.Simd.{map-map}
use Rattle.lh_page.specs.declared.pair.Pair.{Pair}
use Rattle.lh_bucket.specs.Bucket.{Seen, IsKept}
use Rattle.lh_bucket.specs.Listing.{Lists}
use Rattle.lh_bucket.specs.ListingFault.{IsFaultOf}
use Rattle.lh_core.specs.declared.state.SplitState.TheVariants as split
use Rattle.lh_core.specs.Control.{world_of}
use Rattle.lh_core.specs.Listed.{IsListed}
use Rattle.lh_core.specs.World.{StandsFor, WorldSeen, bucket_at}
use Rattle.lh_core.proofs.Records.Listed.{listed, no_fault}
use Rattle.lh_core.proofs.world.World.listing.Goals as goal

pub unreachable-requires : goal.unreachable-requires
unreachable-requires g c =
    let seen = g.B.Bucket.seen in
    let row : List Seen = map seen c.self.inside.buckets.items in
    let idle : c.self.inside.control.splitter ≡ split.Idle =
    ap (λ (w : WorldSeen). w.state.splitter) c.self.view_is ∙ c.requires in
    let same : map (λ v. v.items) c.in_ok-lists.lists.items ≡ map (λ (b : Seen). b.pairs) row =
    c.in_ok-lists.ensures.lists ∙ ap (map (λ b. (seen b).pairs)) c.deref.ensures.value
    ∙ sym (map-map (λ (b : Seen). b.pairs) seen c.self.inside.buckets.items) in
    let kept : (i : ℕ) → i < length row → IsKept (bucket_at row i) = λ i lt.
    subst (λ xs. i < length xs → IsKept (bucket_at (map seen xs) i)) c.deref.ensures.value
    (c.in_ok-lists.ensures.kept i) (subst (λ n. i < n) (length-map c.self.inside.buckets.items seen) lt) in
    no_fault c.linear_hashing.ensures (world_of c.self.inside.control row) c.self.invariant.1 idle kept c.in-Err.fault
    c.in_default.not-Memory
    (subst (λ (n : ℕ). IsFaultOf c.self.inside.control.config n (map (λ (b : Seen). b.pairs) row) c.in-Err.fault)
    c.buckets.ensures.value
    (subst (λ (ls : List (List Pair)). IsFaultOf c.self.inside.control.config c.buckets.result ls c.in-Err.fault)
    same c.in-Err.ensures.err))

pub returns-in-Ok-clause-lists : goal.returns-in-Ok-clause-lists
returns-in-Ok-clause-lists g c =
    let seen = g.B.Bucket.seen in
    let row : List Seen = map seen c.self.inside.buckets.items in
    let same : map (λ v. v.items) c.in_ok-lists.lists.items ≡ map (λ (b : Seen). b.pairs) row =
    c.in_ok-lists.ensures.lists ∙ ap (map (λ b. (seen b).pairs)) c.deref.ensures.value
    ∙ sym (map-map (λ (b : Seen). b.pairs) seen c.self.inside.buckets.items) in
    let config = c.self.inside.control.config in
    let made : (ls : List (List Pair)) → Lists = λ ls. record { config = config; lists = ls } in
    let viewed : WorldSeen → Lists = λ w. record { config = w.config; lists = map (λ (b : Seen). b.pairs) w.buckets } in
    c.in-Ok.ensures.ok ∙ ap made same ∙ ap viewed c.self.view_is

pub returns-in-Ok-clause-listed : goal.returns-in-Ok-clause-listed
returns-in-Ok-clause-listed g c =
    let seen = g.B.Bucket.seen in
    let row : List Seen = map seen c.self.inside.buckets.items in
    let w : WorldSeen = world_of c.self.inside.control row in
    let idle : c.self.inside.control.splitter ≡ split.Idle =
    ap (λ (w : WorldSeen). w.state.splitter) c.self.view_is ∙ c.requires in
    λ m h.
    subst (λ (w : WorldSeen). IsListed w.config m w.state.buckets c.in-Ok.listing) c.self.view_is
    (listed w c.self.invariant.1 idle m c.in-Ok.listing
    (subst (λ (w : WorldSeen). StandsFor w m) (sym c.self.view_is) h)
    (c.in-Ok.ensures.ok
    ∙ ap (λ (ls : List (List Pair)). record { config = c.self.inside.control.config; lists = ls })
    (c.in_ok-lists.ensures.lists ∙ ap (map (λ b. (seen b).pairs)) c.deref.ensures.value
    ∙ sym (map-map (λ (b : Seen). b.pairs) seen c.self.inside.buckets.items)))
    (c.in-Ok.ensures.buckets ∙ c.buckets.ensures.value) c.in-Ok.ensures.kept)
