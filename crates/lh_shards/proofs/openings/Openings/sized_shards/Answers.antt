-- A file more, and its first hand, of the opening whose turn it is
use Rattle.std.proofs.Common.{suc, ◌≡◌, ℕ, ◌+◌, ◌≤◌, ◌∷◌, ◌++◌, [], List, drop, length, map, Some, sym, ap}
use Rattle.std.proofs.Common.{◌∙◌, subst, add-one, append_assoc, append-nil, lit<, arith}
use Rattle.std.specs.List.{slice_get}
use Rattle.std.specs.Vec.Iter.{into_iter_items, into_iter_len}
use Rattle.std.proofs.lemmas.List.{drop_all, length_push, map_push}
use Rattle.lh_bucket.specs.Listing.{size}
use Rattle.lh_file.specs.FileState.{FileState, IsOpened}
use Rattle.lh_file.specs.HashFile.{Shared}
use Rattle.lh_file.specs.Words.HandState.{HandState}
use Rattle.lh_shards.specs.Hands.{EachShard}
use Rattle.lh_shards.proofs.OneShard.{OpenedAs, grown_files, traced_are_of}
use Rattle.lh_shards.proofs.Places.{left_next, length_mapped}
use Rattle.lh_shards.proofs.openings.Openings.sized_shards.Given.{Over}
use Rattle.lh_shards.proofs.openings.Openings.sized_shards.Goals as goal
use Rattle.lh_shards.proofs.openings.Openings.sized_shards.Goals.{In-Some, After-loop-shard}

opening_next : (g : Over) (c : In-Some g) →
    (slice_get c.args.self c.loop-shard._shard ≡ Some c.in-Some.opening)
    × (drop (suc c.loop-shard._shard) c.args.self ≡ into_iter_items c.next.new.self)
opening_next g c =
    left_next c.args.self (into_iter_items c.next.new.self) c.loop-shard._shard c.in-Some.opening
    (sym c.loop-shard.invariant.openings ∙ c.in-Some.ensures.items)

pub sized_file-requires : goal.sized_file-requires
sized_file-requires g c = (
  lit< tt,
  (
    c.requires.brands c.loop-shard._shard c.in-Some.opening (opening_next g c).0,
    (c.requires.room, λ narrow. c.requires.fits narrow c.loop-shard._shard c.in-Some.opening (opening_next g c).0),
  ),
)

pub loop-shard-preserved : goal.loop-shard-preserved
loop-shard-preserved g c =
    let i : ℕ = c.loop-shard._shard in
    let fs : List Shared = c.loop-shard.files.items in
    let hs : List HandState = c.loop-shard.hands.items in
    let states : List FileState = map (λ (file : Shared). file.state) fs in
    let next = opening_next g (goal.at.loop-shard-preserved g c).In-Some in
    let fewer : into_iter_len c.next.new.self + 1 ≡ into_iter_len c.loop-shard.left = c.in-Some.ensures.len in
    let both : length fs ≡ length hs = c.loop-shard.invariant.many ∙ sym c.loop-shard.invariant.hands in
    let x : Shared = c.in_ok-file.file in
    let same : x.state ≡ c.in-Some.opening = c.in_ok-file.ensures.same in
    let rest : drop i c.args.self ≡ c.in-Some.opening ∷ into_iter_items c.next.new.self =
    sym c.loop-shard.invariant.openings ∙ c.in-Some.ensures.items in
    record {
      openings =
          subst (λ n. into_iter_items c.next.new.self ≡ drop n c.args.self) (sym (add-one i)) (sym next.1);
      left = omega (arith, fewer, c.loop-shard.invariant.left);
      whole =
          subst (λ n. map (λ (file : Shared). file.state) c.push.new.self.items ++ drop n c.args.self ≡ c.args.self)
          (sym (add-one i))
          (ap (λ (l : List FileState). l ++ drop (suc i) c.args.self)
          (ap (map (λ (file : Shared). file.state)) c.in_ok-push.ensures.items
          ∙ map_push (λ (file : Shared). file.state) fs x)
          ∙ append_assoc states (x.state ∷ []) (drop (suc i) c.args.self)
          ∙ ap (λ (f : FileState). states ++ f ∷ drop (suc i) c.args.self) same
          ∙ ap (λ (l : List FileState). states ++ c.in-Some.opening ∷ l) next.1
          ∙ ap (λ (l : List FileState). states ++ l) (sym rest) ∙ c.loop-shard.invariant.whole);
      many =
          ap length c.in_ok-push.ensures.items ∙ length_push fs x ∙ ap (λ n. n + 1) c.loop-shard.invariant.many;
      hands =
          ap length c.in_ok-push-2.ensures.items ∙ length_push hs c.in_ok-file.hand
          ∙ ap (λ n. n + 1) c.loop-shard.invariant.hands;
      each =
          subst
          (λ (l : List Shared).
          EachShard OpenedAs (map (λ (file : Shared). file.state) l) c.push-in-loop-shard.new.self.items)
          (sym c.in_ok-push.ensures.items)
          (subst
          (λ (l : List HandState). EachShard OpenedAs (map (λ (file : Shared). file.state) (fs ++ x ∷ [])) l)
          (sym c.in_ok-push-2.ensures.items)
          (grown_files OpenedAs fs hs x c.in_ok-file.hand both c.loop-shard.invariant.each
          (subst (λ (f : FileState). OpenedAs i f c.in_ok-file.hand) (sym same)
          (subst
          (λ (f : FileState).
          IsOpened c.in-Some.opening.listing.config (size c.in-Some.opening.listing) c.in-Some.opening.recording
          c.in-Some.opening.opening f c.in_ok-file.hand) same c.in_ok-file.ensures.opened))));
    }

counted : (g : Over) (c : After-loop-shard g) → length c.loop-shard.files.items ≡ length c.self.inside.openings.items
counted g c =
    let size : c.len-count.result ≡ length c.self.inside.openings.items =
    c.len-count.ensures ∙ c.self.inside.openings.ok.0 in
    let end : c.loop-shard._shard ≤ c.len-count.result = c.loop-shard.auto._shard-end in
    omega (arith, size, end, c.loop-shard-test.false, c.loop-shard.invariant.many)

pub invariant_of-result : goal.invariant_of-result
invariant_of-result g c =
    let all : length c.loop-shard.files.items ≡ length c.self.inside.openings.items = counted g c in
    (omega (arith, all, c.self.invariant.0), omega (arith, all, c.self.invariant.1))

pub returns : goal.returns
returns g c =
    let states : List FileState = map (λ (file : Shared). file.state) c.loop-shard.files.items in
    let seen : length states ≡ length c.loop-shard.files.items =
    length_mapped (λ (file : Shared). file.state) c.loop-shard.files.items in
    let all : length c.loop-shard.files.items ≡ length c.self.inside.openings.items =
    counted g (goal.at.returns g c).After-loop-shard in
    let own : length c.self.inside.openings.items ≡ length c.args.self = ap length c.self.view_is in
    let past : length c.args.self ≤ c.loop-shard._shard = omega (arith, all, own, c.loop-shard.invariant.many) in
    record {
      traced = record {
        same =
            sym (append-nil states) ∙ ap (λ (l : List FileState). states ++ l)
            (sym (drop_all c.loop-shard._shard c.args.self past)) ∙ c.loop-shard.invariant.whole;
        each = c.loop-shard.invariant.each;
        of =
            traced_are_of states c.loop-shard.hands.items
            (c.loop-shard.invariant.hands ∙ sym (seen ∙ c.loop-shard.invariant.many)) c.loop-shard.invariant.each;
      };
    }
