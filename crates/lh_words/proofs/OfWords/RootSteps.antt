-- Each kind of step on the root word keeps the rule
use Rattle.std.proofs.Common.{◌≡◌, ℕ, ◌+◌, ◌-◌, ◌%◌, ◌^◌, ◌<◌, ◌≤◌, ◌⊎◌, Bool, true, false, List, map, eqb, get_or}
use Rattle.std.proofs.Common.{refl, ap, inl, inr, arith, cond}
use mathlib.Core.Option.{none, some}
use lib.ListN.{get_elem?}
use lib.Seq.{set-get_or}
use prog.Atomic.{either}
use Rattle.atomic_table.specs.Table.{step, Act, Valid, carried_after, keeps, stepped, Allows}
use Rattle.atomic_table.proofs.Lists.{at_map, exchanged}
use Rattle.lh_addr.specs.RootWord.{buckets_of}
use Rattle.lh_bucket.specs.Listing.{Lists}
use Rattle.lh_words.specs.History.Buckets.{bit}
use Rattle.lh_words.specs.Rule.{rights_of, IsRule, words_of}
use Rattle.lh_words.specs.Seats.{with_view}
use Rattle.lh_words.specs.Table.{shown, IsFileTable}
use Rattle.lh_words.specs.Plays.{Seated, IsFound, loaded_root, claimed, pointed, dropped}
use Rattle.lh_words.specs.Views.{rooted}
use Rattle.lh_words.specs.declared.numbers.FileWords.{FileWords}
use Rattle.lh_words.specs.declared.offsets.TheConstants.{ROOT}
use Rattle.lh_words.specs.declared.seat_view.SeatView.{SeatView}
use Rattle.lh_words.specs.declared.view.View.{View}
use Rattle.lh_words.proofs.OfHistory.Quiet.{quiet, passes}
use Rattle.lh_words.specs.EachLaws.{at_most_one}
use Rattle.lh_words.specs.SumLaws.{term_le}
use Rattle.lh_words.proofs.OfWords.Changes.{Words, Change, limits_of, rights-one, no_right, root_stored, after_step}

module _ (initial max : ℕ) where
  -- what a hand finds in the root word
  pub found : (words : FileWords) (views : List View) → IsRule initial max words views → (id : ℕ) (v : View) →
      get_elem? views id ≡ some v → 0 < v.initial → IsFound v words.root
  found words views rule id v me live =
      let had = limits_of initial max words views rule id v me live in
      let i = had.0 in
      let m = had.1 in
      let a = rule.least in
      let b = rule.greatest in
      record {
        rises = rule.known id v me;
        least = omega arith;
        greatest = omega arith;
        exact =
            λ has.
            let e = rule.exact id v me has in
            let t = term_le rights_of views id v me in
            let p = rights-one v has in
            let q = rule.right in
            omega arith;
      }

  -- no word changes, and the hand knows of this many buckets
  pub seen : (words : FileWords) (views : List View) → IsRule initial max words views →
      (id : ℕ) (v : View) (known : ℕ) → get_elem? views id ≡ some v → 0 < v.initial → known ≤ buckets_of words.root
      → (v.has_right ≡ true → known ≡ buckets_of words.root) →
      Change initial max words words v (rooted v known v.has_right)
  seen words views rule id v known me live low exact = record {
    least = rule.least;
    greatest = rule.greatest;
    rises = omega arith;
    known = low;
    right = omega arith;
    exact = exact;
    alone = inl refl;
    live = live;
    limits = (refl, refl);
    once = λ x. omega arith;
    drawn = omega arith;
    budget = refl;
    inserts = omega arith;
    deletes = omega arith;
    few = rule.few id v me;
    more = omega arith;
    floor = rule.floors id v me;
  }

  -- the root word becomes n, and the hand knows its size
  rooted_anew : (words : FileWords) (views : List View) → IsRule initial max words views →
      (id : ℕ) (v : View) (n known : ℕ) (has : Bool) → get_elem? views id ≡ some v → 0 < v.initial
      → initial ≤ buckets_of n → buckets_of n + n % 2 ≤ max → buckets_of words.root ≤ buckets_of n →
      known ≡ buckets_of n
      → cond has 1 0 + words.root % 2 ≡ n % 2 + rights_of v
      → (buckets_of n ≡ buckets_of words.root) ⊎ (v.has_right ≡ true) →
      Change initial max words (record words { root = n }) v (rooted v known has)
  rooted_anew words views rule id v n known has me live least greatest rises is right alone = record {
    least = least;
    greatest = greatest;
    rises = rises;
    known = omega arith;
    right = right;
    exact = λ _. is;
    alone = alone;
    live = live;
    limits = (refl, refl);
    once = λ x. omega arith;
    drawn = omega arith;
    budget = refl;
    inserts = omega arith;
    deletes = omega arith;
    few = rule.few id v me;
    more = omega arith;
    floor = rule.floors id v me;
  }

module _ (traced : Bool) (k : Lists) where
  -- what a step on the word i needs that stores n
  abbrev Next : Words → ℕ → ℕ → Seated → (ℕ → Seated → Type 0) → ℕ → Type 0
  Next s i id m then n =
      (d : SeatView) × (a : Act (Unit {0})) × Valid s.homes m.1 a × IsFileTable traced k (stepped s i n id m.1 d a) ×
      then (get_or s.words i 0) (d, carried_after m.1 a)

  -- the rule allows to load the root word,
  pub loads_root : (slots id : ℕ) (m : Seated) → 0 < m.0.view.initial →
      Allows (IsFileTable traced k) slots id m ROOT (λ n. n) (loaded_root (step slots ROOT 0 0 none) m)
  loads_root slots id m live s o _ me _ =
      let size : ℕ = buckets_of (get_or s.words ROOT 0) in
      let v : View = m.0.view in
      let w : View = rooted v size v.has_right in
      let vs : List View = map shown s.views in let there = at_map shown s.views id m.0 me in (
        with_view m.0 w,
        keeps,
        tt,
        after_step traced k s o ROOT id (get_or s.words ROOT 0) m (with_view m.0 w) (words_of s.words) me
            (ap words_of (set-get_or s.words ROOT 0))
            (seen k.config.initial k.config.max (words_of s.words) vs o.rule id v size there live (omega arith)
            (λ _. refl))
            (λ _. quiet k (words_of s.words) (words_of s.words) s.views id m.0 me refl w refl refl (λ le. le)),
        (found k.config.initial k.config.max (words_of s.words) vs o.rule id v there live, refl),
      )

  -- to claim the right to split where it is free,
  pub claims_right : (slots id : ℕ) (m : Seated) (old new : ℕ) → 0 < m.0.view.initial → old % 2 ≡ 0 →
      buckets_of old < m.0.view.max → new ≡ old + 1
      → Allows (IsFileTable traced k) slots id m ROOT (λ n. either (eqb n old) new n)
      (claimed (step slots ROOT old new none) m)
  claims_right slots id m old new live even room is s o _ me _ =
      let r : ℕ = get_or s.words ROOT 0 in
      let size : ℕ = buckets_of r in
      let rule = o.rule in
      let v : View = m.0.view in
      let vs : List View = map shown s.views in let there = at_map shown s.views id m.0 me in
      let at = found k.config.initial k.config.max (words_of s.words) vs rule id v there live in
      exchanged r old new (Next s ROOT id m (claimed (step slots ROOT old new none) m))
      (λ hit.
      let t = term_le rights_of vs id v there in
      let q = rule.right in
      let l = rule.least in
      let g = rule.greatest in
      let lim = (limits_of k.config.initial k.config.max (words_of s.words) vs rule id v there live).1 in
      let nobody : rights_of v ≡ 0 = omega arith in
      let w : View = rooted v size true in
      let next : FileWords = record (words_of s.words) { root = new } in (
        with_view m.0 w,
        keeps,
        tt,
        after_step traced k s o ROOT id new m (with_view m.0 w) next me (root_stored s.words new new o.wide refl)
            (rooted_anew k.config.initial k.config.max (words_of s.words) vs rule id v new size true there live
            (omega arith) (omega arith) (omega arith) (omega arith) (omega arith) (inl (omega arith)))
            (λ _.
            quiet k (words_of s.words) next s.views id m.0 me refl w (omega arith) refl
            (λ _. at_most_one m.0.moved)),
        (at, (λ _. (no_right v nobody, refl)), λ miss. absurd (miss hit)),
      ))
      (λ miss. let w : View = rooted v size v.has_right in (
        with_view m.0 w,
        keeps,
        tt,
        after_step traced k s o ROOT id r m (with_view m.0 w) (words_of s.words) me
            (ap words_of (set-get_or s.words ROOT 0))
            (seen k.config.initial k.config.max (words_of s.words) vs rule id v size there live (omega arith)
            (λ _. refl))
            (λ _. quiet k (words_of s.words) (words_of s.words) s.views id m.0 me refl w refl refl (λ le. le)),
        (at, (λ hit. absurd (miss hit)), λ _. refl),
      ))

  -- to move the pointer with it,
  pub moves_pointer : (slots id : ℕ) (m : Seated) → 0 < m.0.view.initial → m.0.view.has_right ≡ true →
      (traced ≡ true → m.0.moved ≡ true) → k.config.max < 2 ^ 32
      → Allows (IsFileTable traced k) slots id m ROOT (λ n. (n + 1) % 2 ^ 64) (pointed (step slots ROOT 1 0 none) m)
  moves_pointer slots id m live has moved small s o _ me _ =
      let r : ℕ = get_or s.words ROOT 0 in
      let rule = o.rule in
      let v : View = m.0.view in
      let w : View = rooted v (v.known + 1) false in
      let vs : List View = map shown s.views in let there = at_map shown s.views id m.0 me in
      let t = term_le rights_of vs id v there in
      let p = rights-one v has in
      let q = rule.right in
      let l = rule.least in
      let g = rule.greatest in
      let e = rule.exact id v there has in
      let next : FileWords = record (words_of s.words) { root = r + 1 } in
      let d : SeatView = record (m.0) { view = w; moved = false } in (
        d,
        keeps,
        tt,
        after_step traced k s o ROOT id ((r + 1) % 2 ^ 64) m d next me
            (root_stored s.words ((r + 1) % 2 ^ 64) (r + 1) o.wide (omega arith))
            (rooted_anew k.config.initial k.config.max (words_of s.words) vs rule id v (r + 1) (v.known + 1) false there
            live (omega arith) (omega arith) (omega arith) (omega arith) (omega arith) (inr has))
            (λ on. passes k (words_of s.words) next s.views id m.0 me refl w (omega arith) refl (moved on)),
        (omega arith, refl),
      )

  -- and to drop it
  pub drops_right : (slots id : ℕ) (m : Seated) → 0 < m.0.view.initial → m.0.view.has_right ≡ true → m.0.moved ≡ false →
      k.config.max < 2 ^ 32
      → Allows (IsFileTable traced k) slots id m ROOT (λ n. (n + (2 ^ 64 - 1)) % 2 ^ 64)
      (dropped (step slots ROOT 1 0 none) m)
  drops_right slots id m live has unmoved small s o _ me _ =
      let r : ℕ = get_or s.words ROOT 0 in
      let rule = o.rule in
      let v : View = m.0.view in
      let w : View = rooted v v.known false in
      let vs : List View = map shown s.views in let there = at_map shown s.views id m.0 me in
      let t = term_le rights_of vs id v there in
      let p = rights-one v has in
      let q = rule.right in
      let l = rule.least in
      let g = rule.greatest in
      let e = rule.exact id v there has in
      let next : FileWords = record (words_of s.words) { root = r - 1 } in (
        with_view m.0 w,
        keeps,
        tt,
        after_step traced k s o ROOT id ((r + (2 ^ 64 - 1)) % 2 ^ 64) m (with_view m.0 w) next me
            (root_stored s.words ((r + (2 ^ 64 - 1)) % 2 ^ 64) (r - 1) o.wide (omega arith))
            (rooted_anew k.config.initial k.config.max (words_of s.words) vs rule id v (r - 1) v.known false there live
            (omega arith) (omega arith) (omega arith) (omega arith) (omega arith) (inr has))
            (λ _.
            quiet k (words_of s.words) next s.views id m.0 me refl w (omega arith) refl
            (λ _. let z = ap bit unmoved in omega arith)),
        (omega arith, refl),
      )
