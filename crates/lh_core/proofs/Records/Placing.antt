-- Where records stand, through an act and through a split
use Rattle.std.proofs.Common.{◌≡◌, ℕ, ◌+◌, ◌*◌, ◌^◌, ◌<◌, ◌≤◌, ◌≢◌, ◌⊎◌, ◌&&◌, ◌||◌, false, cond, not, List, [], ◌∷◌}
use Rattle.std.proofs.Common.{◌++◌, length, get_or, set, Some, nat_eq, nat_lt, nat_le, refl, sym, ap, subst, ◌∙◌, arith}
use Rattle.std.proofs.Common.{inl, inr, ⊎_elim, eq-eqb, length-append}
use Rattle.std.specs.FinMap.{retain_keys}
use Rattle.std.proofs.lemmas.List.{length-set, get_or-set_same, get_or-set_other}
use Rattle.std.proofs.Math.ListN.{get_or-append}
use Rattle.std.proofs.Math.Seq.{get_or-append_seam}
use Rattle.std.proofs.Math.Nat.{mul-le-mul}
use Rattle.std.proofs.Math.Pow.{pow_mono}
use Rattle.std.proofs.lemmas.Bool.{cases_eq, cases_lt}
use Rattle.std.proofs.lemmas.Bool.Decides.{nat_tests}
use Rattle.lh_addr.specs.Fnv.{code_of}
use Rattle.lh_addr.specs.Settings.{Settings}
use Rattle.lh_addr.specs.Growth.{address, level_of, level, pointer, hash_at, IsAim, IsRoot}
use Rattle.lh_bucket.specs.declared.call.Call.{Call}
use Rattle.lh_bucket.specs.declared.verdict.Verdict.TheVariants.{Here, Next, Defect}
use Rattle.lh_bucket.specs.Bucket.{Head, Seen, CanSplit, content, verdict, raised, stays}
use Rattle.lh_bucket.specs.Call.{key_of}
use Rattle.lh_bucket.specs.PlainMap.{Records, reply, after}
use Rattle.lh_bucket.specs.Verdict.{verdict_of}
use Rattle.lh_core.specs.World.{IsPlaced, HasKeysOnce, no_bucket}
use Rattle.lh_core.specs.Kept.{IsBucketRow, head_at}
use Rattle.lh_core.specs.Splits.{IsSplit, unfilled}
use Rattle.lh_core.specs.Laws.{LinearHashing}
use Rattle.lh_bucket.specs.PlainMapLaws.{reply_here, after_here, after_elsewhere, kept_twice, kept_alike}

not_below : (l : ℕ) → nat_lt l l ≡ false
not_below l = grind (arith, nat_tests)

other_place : (a j : ℕ) → (a ≡ j → ⊥) → nat_eq a j ≡ false
other_place a j n = grind (arith, nat_tests)

-- the verdict of a bucket on a key that belongs to it, at its own level
verdict_here : (initial capacity i l c : ℕ) → hash_at initial l c ≡ i →
    verdict (record { number = i; initial = initial; capacity = capacity; level = Some l }) c l ≡ Here
unfolding verdict_of
verdict_here initial capacity i l c e =
    ap
    (λ t.
    cond t (cond (nat_lt l l) Defect (cond (nat_eq l l) Here (Next (l + 1) (hash_at initial (l + 1) c))))
    Defect) (eq-eqb _ i e)
    ∙ ap (λ t. cond t Defect (cond (nat_eq l l) Here (Next (l + 1) (hash_at initial (l + 1) c)))) (not_below l)
    ∙ ap (λ t. cond t Here (Next (l + 1) (hash_at initial (l + 1) c))) (eq-eqb l l refl)

-- an act at bucket i, to which the call's key leads at the bucket's own level
module _ (g : LinearHashing) (s : Settings) (filled : ℕ) (row : List Seen) (h : IsBucketRow s filled row)
    (some : 1 ≤ s.initial) (from : s.initial ≤ filled) (c : Call) (k i : ℕ)
    (aim : IsAim s.initial filled (code_of (key_of c)) k i) (level : k ≡ level_of s.initial filled i) where
  act_leads : hash_at s.initial (level_of s.initial filled i) (code_of (key_of c)) ≡ i
  act_leads = subst (λ l. hash_at s.initial l (code_of (key_of c)) ≡ i) level aim.leads

  act_home : address s.initial filled (code_of (key_of c)) ≡ i
  act_home = (g.address s.initial filled (code_of (key_of c)) i some from).1 (aim.within, act_leads)

  -- the bucket of the act is the one that the call looks for
  pub act_here : verdict (get_or row i no_bucket).head (code_of (key_of c)) k ≡ Here
  act_here =
      ap (λ (x : Head). verdict x (code_of (key_of c)) k) (h.heads i aim.within)
      ∙ ap (verdict (head_at s filled i) (code_of (key_of c))) level
      ∙ verdict_here s.initial s.capacity i (level_of s.initial filled i) (code_of (key_of c)) act_leads

  -- that bucket gives the call the reply of the map whose records are placed in the buckets
  pub act_reply : (m : Records) → IsPlaced s.initial filled m row →
      reply (content (get_or row i no_bucket)) c ≡ reply m c
  act_reply m pl =
      ap (λ r. reply r c) (pl.each i aim.within)
      ∙ reply_here m (λ k. nat_eq (address s.initial filled (code_of k)) i) c (eq-eqb _ i act_home)

  there : i < length row
  there = subst (λ n. i < n) (sym h.all) aim.within

  -- where that bucket is as the call leaves it, the records of the map after the call are placed
  pub act_placed : (m : Records) (b : Seen) → IsPlaced s.initial filled m row →
      content b ≡ after (content (get_or row i no_bucket)) c → IsPlaced s.initial filled (after m c) (set row i b)
  act_placed m b pl e = record {
    all = length-set row i b ∙ pl.all;
    each = λ j lt.
        ⊎_elim
        (λ (q : j ≡ i).
        subst
        (λ x.
        content (get_or (set row i b) x no_bucket) ≡
        retain_keys (after m c) (λ k. nat_eq (address s.initial filled (code_of k)) x)) (sym q)
        (ap content (get_or-set_same row i b no_bucket there) ∙ e ∙ ap (λ r. after r c) (pl.each i aim.within)
        ∙ after_here m (λ k. nat_eq (address s.initial filled (code_of k)) i) c (eq-eqb _ i act_home)))
        (λ (d : j ≡ i → ⊥).
        ap content (get_or-set_other row i j b no_bucket d) ∙ pl.each j lt
        ∙ sym
        (after_elsewhere m (λ k. nat_eq (address s.initial filled (code_of k)) j) c
        (other_place (address s.initial filled (code_of (key_of c))) j (λ q. d (sym q ∙ act_home)))))
        (cases_eq j i);
  }

  -- the row stays one when that bucket is replaced by one of the same head that has its keys once
  pub act_row : (b : Seen) → b.head ≡ (get_or row i no_bucket).head → HasKeysOnce b → IsBucketRow s filled (set row i b)
  act_row b e once = record {
    all = length-set row i b ∙ h.all;
    heads = λ j lt.
        ⊎_elim
        (λ (q : j ≡ i).
        subst (λ x. (get_or (set row i b) x no_bucket).head ≡ head_at s filled x) (sym q)
        (ap (λ (x : Seen). x.head) (get_or-set_same row i b no_bucket there) ∙ e ∙ h.heads i aim.within))
        (λ (d : j ≡ i → ⊥). ap (λ (x : Seen). x.head) (get_or-set_other row i j b no_bucket d) ∙ h.heads j lt)
        (cases_eq j i);
    once = λ j lt.
        ⊎_elim
        (λ (q : j ≡ i).
        subst (λ x. HasKeysOnce (get_or (set row i b) x no_bucket)) (sym q)
        (subst HasKeysOnce (sym (get_or-set_same row i b no_bucket there)) once))
        (λ (d : j ≡ i → ⊥). subst HasKeysOnce (sym (get_or-set_other row i j b no_bucket d)) (h.once j lt))
        (cases_eq j i);
  }

-- the tests of numbers: a is the address, n the pointer, u the hash one level up, t the number of buckets
stay_test : (a n u : ℕ) → (nat_eq a n && nat_eq u n) ≡ nat_eq (cond (nat_eq a n) u a) n
stay_test a n u = grind (arith, nat_tests)

go_test : (a n u t : ℕ) → a < t → n < t → (a ≡ n → (u ≡ n) ⊎ (u ≡ t)) →
    (nat_eq a n && not (nat_eq u n)) ≡ nat_eq (cond (nat_eq a n) u a) t
go_test a n u t la ln f =
    ⊎_elim
    (λ (e : a ≡ n). ⊎_elim (λ (g : u ≡ n). grind (arith, nat_tests)) (λ (g : u ≡ t). grind (arith, nat_tests)) (f e))
    (λ (d : a ≡ n → ⊥). grind (arith, nat_tests)) (cases_eq a n)

other_test : (a n u t j : ℕ) → j ≢ n → j < t → (a ≡ n → (u ≡ n) ⊎ (u ≡ t)) →
    nat_eq a j ≡ nat_eq (cond (nat_eq a n) u a) j
other_test a n u t j dj lj f =
    ⊎_elim
    (λ (e : a ≡ n). ⊎_elim (λ (g : u ≡ n). grind (arith, nat_tests)) (λ (g : u ≡ t). grind (arith, nat_tests)) (f e))
    (λ (d : a ≡ n → ⊥). grind (arith, nat_tests)) (cases_eq a n)

first_true : (a b x y : ℕ) → cond (nat_eq a a || nat_eq a b) x y ≡ x
first_true a b x y = grind (arith, nat_tests)

second_true : (a b x y : ℕ) → cond (nat_eq b a || nat_eq b b) x y ≡ x
second_true a b x y = grind (arith, nat_tests)

neither : (j a b x y : ℕ) → j ≢ a → j < b → cond (nat_eq j a || nat_eq j b) x y ≡ y
neither j a b x y d l = grind (arith, nat_tests)

level_test : (n t l : ℕ) → n < t → cond (nat_lt n n || nat_le t n) (l + 1) l ≡ l
level_test n t l h = grind (arith, nat_tests)

root_is : LinearHashing → (initial buckets : ℕ) → 1 ≤ initial → initial ≤ buckets →
    IsRoot initial buckets (level initial buckets) (pointer initial buckets)
root_is g initial buckets some from =
    (g.root initial buckets (level initial buckets) (pointer initial buckets) some from).1 (refl, refl)

pointer_level : LinearHashing → (initial buckets : ℕ) → 1 ≤ initial → initial ≤ buckets →
    level_of initial buckets (pointer initial buckets) ≡ level initial buckets
unfolding level_of
pointer_level g initial buckets some from =
    level_test (pointer initial buckets) (initial * 2 ^ level initial buckets) (level initial buckets)
    (root_is g initial buckets some from).in_range

-- what stands at a place of a split row
module _ (xs : List Seen) (n : ℕ) (s t : Seen) where
  row_end : get_or (set xs n s ++ t ∷ []) (length xs) no_bucket ≡ t
  row_end =
      ap (λ i. get_or (set xs n s ++ t ∷ []) i no_bucket) (sym (length-set xs n s))
      ∙ get_or-append_seam (set xs n s) t [] no_bucket

  row_at : n < length xs → get_or (set xs n s ++ t ∷ []) n no_bucket ≡ s
  row_at h =
      get_or-append (set xs n s) (t ∷ []) no_bucket n (subst (λ k. n < k) (sym (length-set xs n s)) h)
      ∙ get_or-set_same xs n s no_bucket h

  row_other : (j : ℕ) → j ≢ n → j < length xs → get_or (set xs n s ++ t ∷ []) j no_bucket ≡ get_or xs j no_bucket
  row_other j d h =
      get_or-append (set xs n s) (t ∷ []) no_bucket j (subst (λ k. j < k) (sym (length-set xs n s)) h)
      ∙ get_or-set_other xs n j s no_bucket d

-- a split of the pointer's bucket
module _ (g : LinearHashing) (s : Settings) (size : ℕ) (row : List Seen) (h : IsBucketRow s size row)
    (some : 1 ≤ s.initial) (from : s.initial ≤ size) where
  root : IsRoot s.initial size (level s.initial size) (pointer s.initial size)
  root = root_is g s.initial size some from

  -- the bucket that splits next is one of the file's
  pub pointer_below : pointer s.initial size < size
  pointer_below = omega (arith, root.size, root.in_range)

  old_head : (get_or row (pointer s.initial size) no_bucket).head ≡ head_at s size (pointer s.initial size)
  old_head = h.heads (pointer s.initial size) pointer_below

  low : size < 65536 → level s.initial size < 16
  low few =
      ⊎_elim (λ (e : level s.initial size < 16). e)
      (λ (e : 16 ≤ level s.initial size).
      let big : 2 ^ 16 ≤ 2 ^ level s.initial size = pow_mono e in
      absurd (omega (arith, mul-le-mul some big, root.size))) (cases_lt (level s.initial size) 16)

  -- of fewer than 65536 buckets, the one that splits next may be split into a new one at the end
  pub can_split : size < 65536 →
      CanSplit (get_or row (pointer s.initial size) no_bucket).head (unfilled size s.initial s.capacity)
  can_split few = subst (λ x. CanSplit x (unfilled size s.initial s.capacity)) (sym old_head)
      (record {
        level = level s.initial size;
        filled = ap Some (pointer_level g s.initial size some from);
        below = low few;
        unfilled = refl;
        number = omega (arith, root.size);
        initial = refl;
        capacity = refl;
      })

  abbrev up : ℕ → ℕ
  up c = hash_at s.initial (level s.initial size + 1) c

  goes : (c : ℕ) → address s.initial size c ≡ pointer s.initial size → (up c ≡ pointer s.initial size) ⊎ (up c ≡ size)
  goes c e =
      let law = (g.address s.initial size c (pointer s.initial size) some from).0 e in
      let lower : hash_at s.initial (level s.initial size) c ≡ pointer s.initial size =
      subst (λ l. hash_at s.initial l c ≡ pointer s.initial size) (pointer_level g s.initial size some from)
      law.1 in
      ⊎_elim (λ q. inl (q ∙ lower)) (λ q. inr (omega (arith, q, lower, root.size)))
      (g.hash s.initial (level s.initial size) c some)

  address_below : (c : ℕ) → address s.initial size c < size
  address_below c = ((g.address s.initial size c (address s.initial size c) some from).0 refl).0

  stays_is : (k : List ℕ) →
      stays (get_or row (pointer s.initial size) no_bucket).head k ≡ nat_eq (up (code_of k)) (pointer s.initial size)
  unfolding stays
  stays_is k =
      ap (λ (x : Head). stays x k) old_head
      ∙ ap (λ l. nat_eq (hash_at s.initial (l + 1) (code_of k)) (pointer s.initial size))
      (pointer_level g s.initial size some from)

  module _ (bs : List Seen) (sp : IsSplit row (pointer s.initial size) s.initial s.capacity bs) where
    at_end : get_or bs size no_bucket ≡ sp.go
    at_end =
        ap (λ xs. get_or xs size no_bucket) sp.is
        ∙ ap (λ n. get_or (set row (pointer s.initial size) sp.stay ++ sp.go ∷ []) n no_bucket) (sym h.all)
        ∙ row_end row (pointer s.initial size) sp.stay sp.go

    at_pointer : get_or bs (pointer s.initial size) no_bucket ≡ sp.stay
    at_pointer =
        ap (λ xs. get_or xs (pointer s.initial size) no_bucket) sp.is
        ∙ row_at row (pointer s.initial size) sp.stay sp.go
        (subst (λ n. pointer s.initial size < n) (sym h.all) pointer_below)

    at_other : (j : ℕ) → j ≢ pointer s.initial size → j < size → get_or bs j no_bucket ≡ get_or row j no_bucket
    at_other j d lt =
        ap (λ xs. get_or xs j no_bucket) sp.is
        ∙ row_other row (pointer s.initial size) sp.stay sp.go j d (subst (λ n. j < n) (sym h.all) lt)

    long : length bs ≡ size + 1
    long =
        ap length sp.is ∙ length-append (set row (pointer s.initial size) sp.stay) (sp.go ∷ [])
        ∙ ap (λ k. k + 1) (length-set row (pointer s.initial size) sp.stay ∙ h.all)

    next_home : (c j : ℕ) →
        nat_eq (address s.initial (size + 1) c) j ≡
        nat_eq (cond (nat_eq (address s.initial size c) (pointer s.initial size)) (up c) (address s.initial size c))
        j
    next_home c j = ap (λ a. nat_eq a j) (g.addresses s.initial size c some from)

    abbrev Home : Records → ℕ → Type 0
    Home m j =
        content (get_or bs j no_bucket) ≡ retain_keys m (λ k. nat_eq (address s.initial (size + 1) (code_of k)) j)

    home_pointer : (m : Records) → IsPlaced s.initial size m row → Home m (pointer s.initial size)
    home_pointer m pl =
        ap content at_pointer ∙ sp.stay_content
        ∙ ap (λ r. retain_keys r (stays (get_or row (pointer s.initial size) no_bucket).head))
        (pl.each (pointer s.initial size) pointer_below)
        ∙ kept_twice m _ _
        ∙ kept_alike m _ _ (λ k.
        ap (λ b. nat_eq (address s.initial size (code_of k)) (pointer s.initial size) && b) (stays_is k)
        ∙ stay_test (address s.initial size (code_of k)) (pointer s.initial size) (up (code_of k))
        ∙ sym (next_home (code_of k) (pointer s.initial size)))

    home_end : (m : Records) → IsPlaced s.initial size m row → Home m size
    home_end m pl =
        ap content at_end ∙ sp.go_content
        ∙ ap (λ r. retain_keys r (λ k. not (stays (get_or row (pointer s.initial size) no_bucket).head k)))
        (pl.each (pointer s.initial size) pointer_below)
        ∙ kept_twice m _ _
        ∙ kept_alike m _ _ (λ k.
        ap (λ b. nat_eq (address s.initial size (code_of k)) (pointer s.initial size) && not b) (stays_is k)
        ∙ go_test (address s.initial size (code_of k)) (pointer s.initial size) (up (code_of k)) size
        (address_below (code_of k)) pointer_below (goes (code_of k))
        ∙ sym (next_home (code_of k) size))

    home_other : (m : Records) → IsPlaced s.initial size m row → (j : ℕ) → j ≢ pointer s.initial size → j < size →
        Home m j
    home_other m pl j d lt =
        ap content (at_other j d lt) ∙ pl.each j lt
        ∙ kept_alike m _ _ (λ k.
        other_test (address s.initial size (code_of k)) (pointer s.initial size) (up (code_of k)) size j d lt
        (goes (code_of k))
        ∙ sym (next_home (code_of k) j))

    by_cases : (P : ℕ → Type 0) → P (pointer s.initial size) → P size →
        ((j : ℕ) → j ≢ pointer s.initial size → j < size → P j) → (j : ℕ) → j < size + 1 → P j
    by_cases P p q r j lt =
        ⊎_elim (λ (e : j ≡ pointer s.initial size). subst P (sym e) p)
        (λ (d : j ≡ pointer s.initial size → ⊥).
        ⊎_elim (λ (e : j < size). r j d e) (λ (e : size ≤ j). let f : size ≡ j = omega (arith, lt, e) in subst P f q)
        (cases_lt j size))
        (cases_eq j (pointer s.initial size))

    -- records that stand in the buckets of their addresses do so after the split, among one bucket more
    pub split_placed : (m : Records) → IsPlaced s.initial size m row → IsPlaced s.initial (size + 1) m bs
    split_placed m pl =
        record { all = long; each = by_cases (Home m) (home_pointer m pl) (home_end m pl) (home_other m pl) }

    abbrev Headed : ℕ → Type 0
    Headed j = (get_or bs j no_bucket).head ≡ head_at s (size + 1) j

    abbrev headed_by : ℕ → ℕ → Head
    headed_by j l = record { number = j; initial = s.initial; capacity = s.capacity; level = Some l }

    head_pointer : Headed (pointer s.initial size)
    head_pointer =
        ap (λ (x : Seen). x.head) at_pointer ∙ sp.stay_head ∙ ap (λ (x : Head). raised x x) old_head
        ∙ ap (headed_by (pointer s.initial size))
        (ap (λ l. l + 1) (pointer_level g s.initial size some from)
        ∙ sym
        (g.levels s.initial size (pointer s.initial size) some from (omega (arith, pointer_below))
        ∙ first_true (pointer s.initial size) size (level s.initial size + 1) _))

    head_end : Headed size
    head_end =
        ap (λ (x : Seen). x.head) at_end ∙ sp.go_head
        ∙ ap (λ (x : Head). raised x (unfilled (length row) s.initial s.capacity)) old_head
        ∙ ap (λ n. headed_by n (level_of s.initial size (pointer s.initial size) + 1)) h.all
        ∙ ap (headed_by size)
        (ap (λ l. l + 1) (pointer_level g s.initial size some from)
        ∙ sym
        (g.levels s.initial size size some from (omega arith)
        ∙ second_true (pointer s.initial size) size (level s.initial size + 1) _))

    head_other : (j : ℕ) → j ≢ pointer s.initial size → j < size → Headed j
    head_other j d lt =
        ap (λ (x : Seen). x.head) (at_other j d lt) ∙ h.heads j lt
        ∙ ap (headed_by j)
        (sym
        (g.levels s.initial size j some from (omega (arith, lt))
        ∙ neither j (pointer s.initial size) size (level s.initial size + 1) _ d lt))

    abbrev Once : ℕ → Type 0
    Once j = HasKeysOnce (get_or bs j no_bucket)

    -- after the split, with one bucket more, each has its number and its level, and its keys once
    pub split_row : IsBucketRow s (size + 1) bs
    split_row = record {
      all = long;
      heads = by_cases Headed head_pointer head_end head_other;
      once =
          by_cases Once (subst HasKeysOnce (sym at_pointer) sp.stay_once) (subst HasKeysOnce (sym at_end) sp.go_once)
          (λ j d lt. subst HasKeysOnce (sym (at_other j d lt)) (h.once j lt));
    }
