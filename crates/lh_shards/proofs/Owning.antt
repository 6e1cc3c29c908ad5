-- A call on one shard, a division and a joining keep hands their files' own, and keep their shares
use Rattle.std.proofs.Common.{◌≡◌, ℕ, ◌+◌, ◌<◌, length, Some, Ok, sym, ap, ◌∙◌, subst, ⊎_elim, arith}
use Rattle.std.specs.List.{slice_get}
use Rattle.std.proofs.lemmas.Option.{same_Some, slice_get_within}
use Rattle.lh_file.specs.FileState.{FileState}
use Rattle.lh_file.specs.History.Own.{IsOwn, share_of, DividedLaw, JoinedLaw}
use Rattle.lh_file.specs.Words.Calls.{IsDivided}
use Rattle.lh_file.specs.Words.HandState.{HandState, IsBranch}
use Rattle.lh_shards.specs.Dividing.{HasGiven}
use Rattle.lh_shards.specs.Own.{CalledLaw, SameLaw, HandsDividedLaw, HandsJoinedLaw}
use Rattle.lh_shards.proofs.Places.{at_set, set_same, there}

-- a call on one shard that leaves its hand the file's own, with its share, leaves all hands so
pub called_law : CalledLaw
called_law shard calls files file old new before after file_at before_at is = (
  λ keeps own k f h fk hk. ⊎_elim
      (λ e.
      let at : slice_get files k ≡ Some file = subst (λ n. slice_get files n ≡ Some file) (sym e.0) file_at in
      let same : file ≡ f = same_Some file f (sym at ∙ fk) in
      subst (λ x. IsOwn x h) same
      (subst (λ x. IsOwn file x) (sym e.1) (keeps (own shard file before file_at before_at))))
      (λ was. own k f h fk was)
      (at_set old shard after k h (subst (λ l. slice_get l k ≡ Some h) is hk)),
  λ keeps all k h hk. ⊎_elim
      (λ e. ap share_of e.1 ∙ keeps ∙ all shard before before_at)
      (λ was. all k h was)
      (at_set old shard after k h (subst (λ l. slice_get l k ≡ Some h) is hk)),
)

-- there is one hand after a call, however many clauses speak of it
pub same_law : SameLaw
same_law shard old before after also at same =
    same_Some after also
    (sym (set_same old shard after before at) ∙ ap (λ l. slice_get l shard) same ∙ set_same old shard also before at)

-- what a hand gave away, and what it gave it to
given_away : (calls : ℕ) (old given new : HandState) → IsBranch calls old given → HasGiven calls old new →
    IsDivided calls old (Ok given) new
given_away calls old given new branch gives = record {
  enough = gives.enough;
  given = branch;
  kept = gives.kept;
  too_few = tt;
  spent = tt;
  unchanged = tt;
}

-- hands that are divided leave both parts their files' own, and the shares of both are what they had
pub divided_law : DividedLaw → HandsDividedLaw
divided_law law calls others files old given new of branch gives own = (
  λ k f h fk hk.
      let lt : k < length old = subst (λ n. k < n) gives.count (slice_get_within new k h hk) in
      let was : (b : HandState) × (slice_get old k ≡ Some b) = there old k lt in
      let part : (g : HandState) × (slice_get given k ≡ Some g) =
      there given k (subst (λ n. k < n) (sym branch.count) lt) in
      (law f calls was.0 h (Ok part.0)
      (given_away calls was.0 part.0 h (branch.each k was.0 part.0 was.1 part.1) (gives.each k was.0 h was.1 hk))
      (own k f was.0 fk was.1)).0,
  λ k f h fk hk.
      let lt : k < length old = subst (λ n. k < n) branch.count (slice_get_within given k h hk) in
      let was : (b : HandState) × (slice_get old k ≡ Some b) = there old k lt in
      let kept : (n : HandState) × (slice_get new k ≡ Some n) =
      there new k (subst (λ n. k < n) (sym gives.count) lt) in
      (law f calls was.0 kept.0 (Ok h)
      (given_away calls was.0 h kept.0 (branch.each k was.0 h was.1 hk) (gives.each k was.0 kept.0 was.1 kept.1))
      (own k f was.0 fk was.1)).1.0,
  λ k h hk.
      let lt : k < length old = subst (λ n. k < n) branch.count (slice_get_within given k h hk) in
      let was : (b : HandState) × (slice_get old k ≡ Some b) = there old k lt in
      let part : IsBranch calls was.0 h = branch.each k was.0 h was.1 hk in
      omega (arith, ap (λ v. v.left) part.view, ap length part.acts),
  λ all k h hk.
      let lt : k < length old = subst (λ n. k < n) gives.count (slice_get_within new k h hk) in
      let was : (b : HandState) × (slice_get old k ≡ Some b) = there old k lt in
      let less : HasGiven calls was.0 h = gives.each k was.0 h was.1 hk in
      omega
      (arith, less.enough, ap (λ x. x.view.left) less.kept, ap (λ x. length x.acts) less.kept, all k was.0 was.1),
)

-- hands that are made of two for each shard are their files' own where all were, and have the shares of both
pub joined_law : JoinedLaw → HandsJoinedLaw
joined_law law calls others files first second new of other_of joined = (
  λ own other_own k f h fk hk.
      let lt : k < length first = subst (λ n. k < n) joined.count (slice_get_within new k h hk) in
      let one : (b : HandState) × (slice_get first k ≡ Some b) = there first k lt in
      let two : (b : HandState) × (slice_get second k ≡ Some b) =
      there second k (subst (λ n. k < n) (of.count ∙ sym other_of.count) lt) in
      (law f one.0 two.0 h (joined.each k one.0 two.0 h one.1 two.1 hk)).0 (own k f one.0 fk one.1)
      (other_own k f two.0 fk two.1),
  λ all other_all k h hk.
      let lt : k < length first = subst (λ n. k < n) joined.count (slice_get_within new k h hk) in
      let one : (b : HandState) × (slice_get first k ≡ Some b) = there first k lt in
      let two : (b : HandState) × (slice_get second k ≡ Some b) =
      there second k (subst (λ n. k < n) (of.count ∙ sym other_of.count) lt) in
      let file : (f : FileState) × (slice_get files k ≡ Some f) = there files k (subst (λ n. k < n) of.count lt) in
      let shares : share_of h ≡ share_of one.0 + share_of two.0 =
      (law file.0 one.0 two.0 h (joined.each k one.0 two.0 h one.1 two.1 hk)).1 in
      shares ∙ ap (λ n. n + share_of two.0) (all k one.0 one.1) ∙ ap (λ n. calls + n) (other_all k two.0 two.1),
)
