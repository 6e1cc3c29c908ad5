-- Each kind of step on the stamp word and on the counts keeps the rule
use Rattle.std.proofs.Common.{◌≡◌, ℕ, ◌+◌, ◌%◌, ◌^◌, ◌<◌, ◌≤◌, Bool, true, false, List, [], ◌∷◌, map, length, set}
use Rattle.std.proofs.Common.{get_or, sym, refl, ap, ◌∙◌, inl, arith, cond, length-append, All, Option, None}
use Rattle.std.specs.FinMap.{get}
use mathlib.Core.Option.{none, some}
use lib.ListN.{get_elem?}
use lib.Seq.{set-get_or}
use Rattle.atomic_table.specs.Table.{step, keeps, stepped, Allows}
use Rattle.atomic_table.proofs.Lists.{at_map}
use Rattle.lh_addr.specs.Fnv.{code_of}
use Rattle.lh_addr.specs.RootWord.{buckets_of}
use Rattle.lh_bucket.specs.Bucket.{Seen, content}
use Rattle.lh_bucket.specs.Listing.{Lists}
use Rattle.lh_bucket.specs.PlainMap.{key_of}
use Rattle.lh_bucket.specs.declared.call.Call.{Call}
use Rattle.lh_bucket.specs.declared.call.Reply.{Reply}
use Rattle.lh_words.specs.History.Buckets.{owns, HasServedCall}
use Rattle.lh_words.specs.History.History.{History}
use Rattle.lh_words.specs.History.Told.{IsSurveyed}
use Rattle.lh_words.specs.Sums.{times, once_below}
use Rattle.lh_words.specs.Rule.{rights_of, IsRule, words_of}
use Rattle.lh_words.specs.Seats.{with_view, with_act, told_seat}
use Rattle.lh_words.specs.Table.{shown, IsFileTable}
use Rattle.lh_words.specs.Plays.{Seated, loaded_inserts, loaded_deletes, drawn_outside, drawn, told, counted_insert}
use Rattle.lh_words.specs.Plays.{counted_delete}
use Rattle.lh_words.specs.Views.{stamped_with, floored}
use Rattle.lh_words.specs.declared.numbers.FileWords.{FileWords}
use Rattle.lh_words.specs.declared.offsets.TheConstants.{STAMPS, INSERTS, DELETES}
use Rattle.lh_words.specs.declared.seat_view.Entry.{Entry}
use Rattle.lh_words.specs.declared.view.View.{View}
use Rattle.std.proofs.lemmas.Bool.{false≢true}
use Rattle.lh_words.proofs.OfHistory.Acting.{stays_outside, acts}
use Rattle.lh_words.proofs.OfHistory.Quiet.{quiet, hears}
use Rattle.lh_words.specs.SumLaws.{term_le, total-le, total-sum, times-append, once-more, all-below}
use Rattle.lh_words.proofs.OfWords.Changes.{Words, Change, limits_of, stamps_stored, inserts_stored, deletes_stored}
use Rattle.lh_words.proofs.OfWords.Changes.{after_step}
use Rattle.lh_words.proofs.OfWords.RootSteps.{seen}

module _ (initial max : ℕ) where
  -- what a hand knows is within its file's limits, with one bucket more where it has the right
  within : (words : FileWords) (views : List View) → IsRule initial max words views → (id : ℕ) (v : View) →
      get_elem? views id ≡ some v → 0 < v.initial → v.known + rights_of v ≤ v.max
  within words views rule id v me live =
      let t = term_le rights_of views id v me in
      let q = rule.right in
      let g = rule.greatest in
      let n = rule.known id v me in
      let m = (limits_of initial max words views rule id v me live).1 in omega arith

  -- all counts together are no more than the stamps
  few_enough : (words : FileWords) (views : List View) → IsRule initial max words views →
      words.inserts + words.deletes ≤ words.stamps
  few_enough words views rule =
      let h = total-le (λ (u : View). u.inserted + u.deleted) (λ (u : View). length u.stamps) views rule.few in
      omega (
        arith,
        rule.drawn,
        rule.inserts,
        rule.deletes,
        total-sum (λ (u : View). u.inserted) (λ (u : View). u.deleted) views,
      )

  -- the words behind the root change, and what the hand knows of the root stays
  recounted : (words new : FileWords) (views : List View) → IsRule initial max words views → (id : ℕ) (v w : View) →
      get_elem? views id ≡ some v → 0 < v.initial
      → new.root ≡ words.root →
      (w.known ≡ v.known) × (w.has_right ≡ v.has_right) × (w.initial ≡ v.initial) × (w.max ≡ v.max)
      → words.stamps ≤ new.stamps → w.floor ≤ new.stamps
      → ((x : ℕ) → times x w.stamps + once_below x words.stamps ≡ once_below x new.stamps + times x v.stamps)
      → length w.stamps + words.stamps ≡ new.stamps + length v.stamps
      → new.stamps + w.left ≡ words.stamps + v.left
      → w.inserted + words.inserts ≡ new.inserts + v.inserted
      → w.deleted + words.deletes ≡ new.deletes + v.deleted
      → w.inserted + w.deleted ≤ length w.stamps → Change initial max words new v w
  recounted words new views rule id v w me live root same more floor once drawn budget inserts deletes few =
      let size : buckets_of new.root ≡ buckets_of words.root = ap buckets_of root in
      let odd : new.root % 2 ≡ words.root % 2 = ap (λ n. n % 2) root in
      let rights : rights_of w ≡ rights_of v = ap (λ b. cond b 1 0) same.1 in
      let known = rule.known id v me in
      let is = same.0 in
      let l = rule.least in
      let g = rule.greatest in
      record {
        least = omega arith;
        greatest = omega arith;
        rises = omega arith;
        known = omega arith;
        right = omega arith;
        exact = λ has. let e = rule.exact id v me (sym same.1 ∙ has) in omega arith;
        alone = inl size;
        live = live;
        limits = (same.2, same.3);
        once = once;
        drawn = drawn;
        budget = budget;
        inserts = inserts;
        deletes = deletes;
        few = few;
        more = more;
        floor = floor;
      }

  -- no word changes, and the hand was told of this many acts
  floor_told : (words : FileWords) (views : List View) → IsRule initial max words views →
      (id : ℕ) (v : View) (floor : ℕ) → get_elem? views id ≡ some v → 0 < v.initial → floor ≤ words.stamps
      → Change initial max words words v (floored v floor)
  floor_told words views rule id v floor me live low = record {
    least = rule.least;
    greatest = rule.greatest;
    rises = omega arith;
    known = rule.known id v me;
    right = omega arith;
    exact = rule.exact id v me;
    alone = inl refl;
    live = live;
    limits = (refl, refl);
    once = λ x. omega arith;
    drawn = omega arith;
    budget = refl;
    inserts = omega arith;
    deletes = omega arith;
    few = rule.few id v me;
    more = omega arith;
    floor = low;
  }

module _ (traced : Bool) (k : Lists) where
  -- the rule allows to load the count of inserts
  pub loads_inserts : (slots id : ℕ) (m : Seated) → 0 < m.0.view.initial →
      Allows (IsFileTable traced k) slots id m INSERTS (λ n. n) (loaded_inserts (step slots INSERTS 0 0 none) m)
  loads_inserts slots id m live s o _ me _ =
      let rule = o.rule in
      let v : View = m.0.view in
      let vs : List View = map shown s.views in
      let there = at_map shown s.views id m.0 me in (
        m.0,
        keeps,
        tt,
        after_step traced k s o INSERTS id (get_or s.words INSERTS 0) m m.0 (words_of s.words) me
            (ap words_of (set-get_or s.words INSERTS 0))
            (seen k.config.initial k.config.max (words_of s.words) vs rule id v v.known there live
            (rule.known id v there)
            (rule.exact id v there))
            (λ _. quiet k (words_of s.words) (words_of s.words) s.views id m.0 me refl v refl refl (λ le. le)),
        (
          omega (arith, term_le (λ (u : View). u.inserted) vs id v there, rule.inserts),
          within k.config.initial k.config.max (words_of s.words) vs rule id v there live,
          omega (
            arith,
            term_le (λ (u : View). u.left) vs id v there,
            term_le (λ (u : View). length u.stamps) vs id v there,
            rule.drawn,
            rule.budget,
          ),
          refl,
        ),
      )

  -- the rule allows to load the count of deletes
  pub loads_deletes : (slots id : ℕ) (m : Seated) → 0 < m.0.view.initial →
      Allows (IsFileTable traced k) slots id m DELETES (λ n. n) (loaded_deletes (step slots DELETES 0 0 none) m)
  loads_deletes slots id m live s o _ me _ =
      let rule = o.rule in
      let v : View = m.0.view in
      let vs : List View = map shown s.views in
      let there = at_map shown s.views id m.0 me in (
        m.0,
        keeps,
        tt,
        after_step traced k s o DELETES id (get_or s.words DELETES 0) m m.0 (words_of s.words) me
            (ap words_of (set-get_or s.words DELETES 0))
            (seen k.config.initial k.config.max (words_of s.words) vs rule id v v.known there live
            (rule.known id v there)
            (rule.exact id v there))
            (λ _. quiet k (words_of s.words) (words_of s.words) s.views id m.0 me refl v refl refl (λ le. le)),
        (omega (arith, term_le (λ (u : View). u.deleted) vs id v there, rule.deletes), refl),
      )

  -- a stamp is drawn, by a seat that enters an act with it
  draws : (slots id : ℕ) (m : Seated) (outside : Bool) (call : Call) (given : Reply) (was : Option (List ℕ))
      (parts : List Seen) → 0 < m.0.view.initial → 0 < m.0.view.left
      → (s : Words) → IsFileTable traced k s → get_elem? s.views id ≡ some m.0
      → (let q : ℕ =
      get_or s.words STAMPS 0 in
      traced ≡ true → History k (words_of s.words) s.views →
      History k (record (words_of s.words) { stamps = q + 1 })
      (set s.views id (with_act outside call given was parts q m.0)))
      → (let q : ℕ =
      get_or s.words STAMPS 0 in
      IsFileTable traced k
      (stepped s STAMPS ((q + 1) % 2 ^ 64) id m.1 (with_act outside call given was parts q m.0) keeps)
      × All (λ x. x < q) m.0.view.stamps × (m.0.view.floor ≤ q)
      × (m.0.view.inserted + m.0.view.deleted ≤ length m.0.view.stamps))
  draws slots id m outside call given was parts live some_left s o me past =
      let q : ℕ = get_or s.words STAMPS 0 in let rule = o.rule in let v : View = m.0.view in
      let vs : List View = map shown s.views in let there = at_map shown s.views id m.0 me in
      let b = rule.budget in let t = term_le (λ (u : View). u.left) vs id v there in let f = rule.few id v there in
      let w : View = stamped_with v q in
      let n : ℕ = (q + 1) % 2 ^ 64 in
      let new : FileWords = record (words_of s.words) { stamps = q + 1 } in
      let len = length-append v.stamps (q ∷ []) in (
        after_step traced k s o STAMPS id n m (with_act outside call given was parts q m.0) new me
            (stamps_stored s.words n (q + 1) o.wide (omega arith))
            (recounted k.config.initial k.config.max (words_of s.words) new vs rule id v w there live refl
            (refl, refl, refl, refl) (omega arith) (let fl = rule.floors id v there in omega arith)
            (λ x. omega (arith, times-append x v.stamps (q ∷ []), once-more x q))
            (omega arith) (omega arith) (omega arith) (omega arith) (omega arith))
            past,
        all-below q v.stamps (λ x. omega (arith, term_le (λ (u : View). times x u.stamps) vs id v there, rule.once x)),
        rule.floors id v there,
        f,
      )

  -- to draw a stamp outside the history,
  pub draws_outside : (slots id : ℕ) (m : Seated) (call : Call) (given : Reply) → 0 < m.0.view.initial →
      0 < m.0.view.left → Allows (IsFileTable traced k) slots id m STAMPS (λ n. (n + 1) % 2 ^ 64)
      (drawn_outside call given (step slots STAMPS 1 0 none) m)
  draws_outside slots id m call given live some_left s o _ me _ = let q : ℕ = get_or s.words STAMPS 0 in
      let drawn = draws slots id m true call given None m.0.parts live some_left s o me
      (λ _.
      stays_outside k (words_of s.words) (record (words_of s.words) { stamps = q + 1 }) s.views id m.0 me refl refl call
      given) in (
        with_act true call given None m.0.parts q m.0,
        keeps,
        tt,
        drawn.0,
        (drawn.1, drawn.3, refl),
      )

  -- to draw one for an act of the history,
  pub draws_stamp : (slots id : ℕ) (m : Seated) (p r : Seen) (call : Call) (given : Reply) (was : Option (List ℕ)) →
      m.0.parts ≡ p ∷ [] → owns (code_of (key_of call)) p ≡ true → HasServedCall p call given r →
      was ≡ get (content p) (key_of call) → 0 < m.0.view.initial → 0 < m.0.view.left
      → Allows (IsFileTable traced k) slots id m STAMPS (λ n. (n + 1) % 2 ^ 64)
      (drawn call given was r (step slots STAMPS 1 0 none) m)
  draws_stamp slots id m p r call given was has own served met live some_left s o _ me _ =
      let q : ℕ = get_or s.words STAMPS 0 in
      let did = draws slots id m false call given was (r ∷ []) live some_left s o me
      (λ _.
      acts k (words_of s.words) (record (words_of s.words) { stamps = q + 1 }) s.views id m.0 me refl refl p r call
      given was has own served met) in (
        with_act false call given was (r ∷ []) q m.0,
        keeps,
        tt,
        did.0,
        (did.1, did.2, did.3, refl),
      )

  -- a load of the stamp word tells of the history, and of the buckets that lie with the hand
  pub tells : (slots id : ℕ) (m : Seated) → 0 < m.0.view.initial →
      Allows (IsFileTable traced k) slots id m STAMPS (λ n. n) (told traced k (step slots STAMPS 0 0 none) m)
  tells slots id m live s o _ me _ =
      let q : ℕ = get_or s.words STAMPS 0 in
      let rule = o.rule in
      let v : View = m.0.view in
      let w : View = floored v q in
      let vs : List View = map shown s.views in let there = at_map shown s.views id m.0 me in
      let log : Bool → Type 0 =
      λ b.
      (log : List Entry) × IsFileTable b k (stepped s STAMPS q id m.1 (told_seat q log m.0) keeps)
      × (b ≡ true → IsSurveyed k q m.0.entries m.0.logs m.0.parts log) in
      let change =
      floor_told k.config.initial k.config.max (words_of s.words) vs rule id v q there live (omega arith) in
      let found = elim traced as (λ b. IsFileTable b k s → log b) [
        | true ↦ λ (o : IsFileTable true k s). let h = o.history refl in (
          h.log,
          after_step true k s o STAMPS id q m (told_seat q h.log m.0) (words_of s.words) me
              (ap words_of (set-get_or s.words STAMPS 0)) change
              (λ _ _. hears k (words_of s.words) (words_of s.words) s.views id m.0 me refl w refl refl (λ le. le) h),
          λ _. ((h.size_is, h.legal, h.stand id m.0 me, h.logs id m.0 me), h.mirror id m.0 me),
        )
        | false ↦ λ (o : IsFileTable false k s). (
          [],
          after_step false k s o STAMPS id q m (told_seat q [] m.0) (words_of s.words) me
              (ap words_of (set-get_or s.words STAMPS 0)) change
              (λ no. absurd (false≢true no)),
          λ no. absurd (false≢true no),
        )
      ] o in (
        told_seat q found.0 m.0,
        keeps,
        tt,
        found.1,
        (rule.floors id v there, found.0, refl, found.2),
      )

  -- and to count an act that has its stamp
  pub counts_insert : (slots id : ℕ) (m : Seated) → 0 < m.0.view.initial →
      m.0.view.inserted + m.0.view.deleted < length m.0.view.stamps
      → Allows (IsFileTable traced k) slots id m INSERTS (λ n. (n + 1) % 2 ^ 64)
      (counted_insert (step slots INSERTS 1 0 none) m)
  counts_insert slots id m live room s o _ me _ =
      let c : ℕ = get_or s.words INSERTS 0 in let rule = o.rule in let v : View = m.0.view in
      let vs : List View = map shown s.views in let there = at_map shown s.views id m.0 me in
      let b = rule.budget in let f = few_enough k.config.initial k.config.max (words_of s.words) vs rule in
      let w : View = record v { inserted = v.inserted + 1 } in
      let n : ℕ = (c + 1) % 2 ^ 64 in
      let new : FileWords = record (words_of s.words) { inserts = c + 1 } in (
        with_view m.0 w,
        keeps,
        tt,
        after_step traced k s o INSERTS id n m (with_view m.0 w) new me
            (inserts_stored s.words n (c + 1) o.wide (omega arith))
            (recounted k.config.initial k.config.max (words_of s.words) new vs rule id v w there live refl
            (refl, refl, refl, refl) (omega arith) (let fl = rule.floors id v there in omega arith)
            (λ x. omega arith) (omega arith) (omega arith) (omega arith) (omega arith) (omega arith))
            (λ _. quiet k (words_of s.words) new s.views id m.0 me refl w refl refl (λ le. le)),
        refl,
      )

  -- the same of a delete
  pub counts_delete : (slots id : ℕ) (m : Seated) → 0 < m.0.view.initial →
      m.0.view.inserted + m.0.view.deleted < length m.0.view.stamps
      → Allows (IsFileTable traced k) slots id m DELETES (λ n. (n + 1) % 2 ^ 64)
      (counted_delete (step slots DELETES 1 0 none) m)
  counts_delete slots id m live room s o _ me _ =
      let c : ℕ = get_or s.words DELETES 0 in let rule = o.rule in let v : View = m.0.view in
      let vs : List View = map shown s.views in let there = at_map shown s.views id m.0 me in
      let b = rule.budget in let f = few_enough k.config.initial k.config.max (words_of s.words) vs rule in
      let w : View = record v { deleted = v.deleted + 1 } in
      let n : ℕ = (c + 1) % 2 ^ 64 in
      let new : FileWords = record (words_of s.words) { deletes = c + 1 } in (
        with_view m.0 w,
        keeps,
        tt,
        after_step traced k s o DELETES id n m (with_view m.0 w) new me
            (deletes_stored s.words n (c + 1) o.wide (omega arith))
            (recounted k.config.initial k.config.max (words_of s.words) new vs rule id v w there live refl
            (refl, refl, refl, refl) (omega arith) (let fl = rule.floors id v there in omega arith)
            (λ x. omega arith) (omega arith) (omega arith) (omega arith) (omega arith) (omega arith))
            (λ _. quiet k (words_of s.words) new s.views id m.0 me refl w refl refl (λ le. le)),
        refl,
      )
