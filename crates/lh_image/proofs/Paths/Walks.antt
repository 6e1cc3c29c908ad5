-- Walking along `next`: a walk from a head comes back to no page, so it ends.
use Rattle.std.proofs.Common.{◌≡◌, ◌≢◌, ℕ, zero, suc, ◌+◌, ◌-◌, ◌<◌, ◌≤◌, ◌⊎◌, inl, inr, true, eqb, List, [], ◌∷◌}
use Rattle.std.proofs.Common.{length, get_or, drop, refl, sym, ap, subst, ◌∙◌, arith, drop-cons, length-drop}
use Rattle.std.specs.List.{list_any}
use Rattle.std.proofs.lemmas.Bool.{cases_lt, cases_eq, cases_order, eqb-true, eq-eqb, ne_eqb, false≢true, or_cases}
use Rattle.std.proofs.lemmas.Bool.{or_right, or_left}
use Rattle.lh_image.specs.Chains.{pages_from, stands_in, IsPath, IsLinked, IsCovered, chain}
use Rattle.lh_image.proofs.Paths.Pigeons.{pigeonhole}

-- the page after k steps
unfoldable pub walk : (ℕ → ℕ) → ℕ → ℕ → ℕ
walk next p zero = p
walk next p (suc k) = next (walk next p k)

-- some steps from the next page lead where one step more leads from the page itself
pub walk_on : (next : ℕ → ℕ) (p k : ℕ) → walk next (next p) k ≡ next (walk next p k)
unfolding walk
walk_on next p zero = refl
walk_on next p (suc k) = ap next (walk_on next p k)

-- either the pages end within k steps, or no step up to k ends them
pub ends_or_goes_on : (next : ℕ → ℕ) (k p : ℕ) →
    IsPath next p (pages_from next k p) ⊎ ((j : ℕ) → j ≤ k → walk next p j ≢ 0)
unfolding pages_from walk
ends_or_goes_on next zero p = elim (cases_eq p 0) [
  | inl e ↦ inl e
  | inr n ↦ inr (λ j h. let z : j ≡ 0 = omega arith in rw z n)
]
ends_or_goes_on next (suc k) p = elim (cases_eq p 0) [
  | inl e ↦ inl (rw (eq-eqb p 0 e) e)
  | inr n ↦ elim (ends_or_goes_on next k (next p)) [
    | inl path ↦ inl (rw (ne_eqb p 0 n) (refl, omega arith, path))
    | inr on ↦ inr (λ j h. elim j as (λ i. i ≤ suc k → walk next p i ≢ 0) [
      | zero ↦ λ _. n
      | suc i ↦ λ l. rw (← walk_on next p i) (on i (omega arith))
    ] h)
  ]
]

module _ (next bucket : ℕ → ℕ) (S P : ℕ) (none : next 0 ≡ 0) (linked : IsLinked next bucket S P) where
  -- the pages before a page of a walk are pages too
  pub alive_before : (h k : ℕ) → walk next h (suc k) ≢ 0 → walk next h k ≢ 0
  unfolding walk
  alive_before h k more e = more (ap next e ∙ none)

  -- a walk that hasn't ended is at one of the pages
  pub walk_within : (h j : ℕ) → 1 ≤ h → h < P → ((i : ℕ) → i ≤ j → walk next h i ≢ 0) →
      (1 ≤ walk next h j) × (walk next h j < P)
  unfolding walk
  walk_within h zero low high alive = (low, high)
  walk_within h (suc j) low high alive =
      let before = walk_within h j low high (λ i l. alive i (omega arith)) in
      let here : next (walk next h j) ≢ 0 = alive (suc j) (omega arith) in
      (omega arith, linked.within (walk next h j) before.0 before.1 here)

  -- a walk from a head comes back to no page
  pub apart : (i j m : ℕ) → i < S → S < P → j < m → ((k : ℕ) → k ≤ m → walk next (1 + i) k ≢ 0) →
      walk next (1 + i) j ≡ walk next (1 + i) m → ⊥
  unfolding walk
  apart i j zero head some lt alive e = absurd (omega arith)
  apart i zero (suc m) head some lt alive e =
      let before = walk_within (1 + i) m (omega arith) (omega arith) (λ k l. alive k (omega arith)) in
      let high : S < next (walk next (1 + i) m) =
      linked.no_head (walk next (1 + i) m) before.0 before.1 (alive (suc m) (omega arith)) in
      absurd (omega arith)
  apart i (suc j) (suc m) head some lt alive e =
      let a = walk_within (1 + i) j (omega arith) (omega arith) (λ k l. alive k (omega arith)) in
      let b = walk_within (1 + i) m (omega arith) (omega arith) (λ k l. alive k (omega arith)) in
      apart i j m head some (omega arith) (λ k l. alive k (omega arith))
      (linked.once (walk next (1 + i) j) (walk next (1 + i) m) a.0 a.1 b.0 b.1 (alive (suc j) (omega arith)) e)

  -- So the pages from a head, as many as there are pages, are its whole path.
  pub ends : (i : ℕ) → i < S → S < P → IsPath next (1 + i) (pages_from next P (1 + i))
  ends i head some = elim (ends_or_goes_on next P (1 + i)) [
    | inl path ↦ path
    | inr alive ↦
        let into : (k : ℕ) → k < suc P → walk next (1 + i) k < P =
        λ k l. (walk_within (1 + i) k (omega arith) (omega arith) (λ m n. alive m (omega arith))).1 in
        let one : (j k : ℕ) → j < suc P → k < suc P → walk next (1 + i) j ≡ walk next (1 + i) k → j ≡ k =
        λ j k a b e. elim (cases_order j k) [
          | inl same ↦ same
          | inr other ↦ elim other [
            | inl less ↦ absurd (apart i j k head some less (λ m l. alive m (omega arith)) e)
            | inr more ↦ absurd (apart i k j head some more (λ m l. alive m (omega arith)) (sym e))
          ]
        ] in
        absurd (omega (arith, pigeonhole (suc P) P (walk next (1 + i)) into one))
  ]

  -- a path has pages of its bucket alone
  pub path_own : (xs : List ℕ) (p i : ℕ) → IsPath next p xs → (p ≢ 0 → (p < P) × (bucket p ≡ i)) → (q : ℕ) →
      stands_in xs q ≡ true → (1 ≤ q) × (q < P) × (bucket q ≡ i)
  unfolding stands_in
  path_own [] p i path start q here = absurd (false≢true here)
  path_own (x ∷ xs) p i path start q here =
      let at = start (omega (arith, path.1)) in
      elim (or_cases (eqb x q) (list_any (λ y. eqb y q) xs) here) [
        | inl first ↦
            let e : x ≡ q = eqb-true x q first in
            let same : p ≡ q = sym path.0 ∙ e in
            rw (← same) (path.1, at.0, at.1)
        | inr later ↦ path_own xs (next p) i path.2
            (λ more. (linked.within p path.1 at.0 more, linked.same p path.1 at.0 more ∙ at.1)) q later
      ]

-- one path from a page
pub path_only : (next : ℕ → ℕ) (xs ys : List ℕ) (p : ℕ) → IsPath next p xs → IsPath next p ys → xs ≡ ys
path_only next [] [] p a b = refl
path_only next [] (y ∷ ys) p a b = absurd (omega (arith, b.1))
path_only next (x ∷ xs) [] p a b = absurd (omega (arith, a.1))
path_only next (x ∷ xs) (y ∷ ys) p a b =
    let rest = path_only next xs ys (next p) a.2 b.2 in
    let first : x ≡ y = a.0 ∙ sym b.0 in
    cc

-- a path that is no longer than this many pages is what they are
pub path_is : (next : ℕ → ℕ) (xs : List ℕ) (p k : ℕ) → IsPath next p xs → length xs ≤ k → pages_from next k p ≡ xs
unfolding pages_from
path_is next [] p zero path le = refl
path_is next [] p (suc k) path le = rw (eq-eqb p 0 path) refl
path_is next (x ∷ xs) p zero path le = absurd (omega arith)
path_is next (x ∷ xs) p (suc k) path le =
    let rest = path_is next xs (next p) k path.2 (omega arith) in
    rw (ne_eqb p 0 (λ e. omega (arith, path.1)), rest, path.0) refl

-- where a page of a path stands, the path from it
pub path_at : (next : ℕ → ℕ) (xs : List ℕ) (h p : ℕ) → IsPath next h xs → stands_in xs p ≡ true →
    (k : ℕ) × (k < length xs) × (get_or xs k 0 ≡ p) × IsPath next p (drop k xs)
unfolding stands_in
path_at next [] h p path here = absurd (false≢true here)
path_at next (x ∷ xs) h p path here =
    elim (or_cases (eqb x p) (list_any (λ y. eqb y p) xs) here) [
      | inl first ↦
          let e : x ≡ p = eqb-true x p first in
          let same : h ≡ p = sym path.0 ∙ e in
          (0, omega arith, e, rw same at path)
      | inr later ↦ let rest =
          path_at next xs (next h) p path.2 later in (suc rest.0, omega (arith, rest.1), rest.2, rest.3)
    ]

-- a path begins with its page
pub begins : (next : ℕ → ℕ) (xs : List ℕ) (p : ℕ) → IsPath next p xs → p ≢ 0 → stands_in xs p ≡ true
unfolding stands_in
begins next [] p path some = absurd (some path)
begins next (x ∷ xs) p path some = or_left (eqb x p) (list_any (λ y. eqb y p) xs) (eq-eqb x p path.0)

-- the page that follows a page of a path stands there too
pub next_stands : (next : ℕ → ℕ) (xs : List ℕ) (h p : ℕ) → IsPath next h xs → stands_in xs p ≡ true → next p ≢ 0 →
    stands_in xs (next p) ≡ true
unfolding stands_in
next_stands next [] h p path here more = absurd (false≢true here)
next_stands next (x ∷ xs) h p path here more =
    or_right (eqb x (next p)) (list_any (λ y. eqb y (next p)) xs)
    (elim (or_cases (eqb x p) (list_any (λ y. eqb y p) xs) here) [
      | inl first ↦
          let e : x ≡ p = eqb-true x p first in
          let same : h ≡ p = sym path.0 ∙ e in
          let rest : IsPath next (next p) xs = rw same at path.2 in
          begins next xs (next p) rest more
      | inr later ↦ next_stands next xs (next h) p path.2 later more
    ])

-- ---- the two ways between links and paths

abbrev OnSome : (ℕ → ℕ) → ℕ → ℕ → Type 0
OnSome next S P = (p : ℕ) → 1 ≤ p → p < P → (i : ℕ) × (i < S) × (stands_in (chain next P i) p ≡ true)

-- where pages are linked and each is on a chain, the chains are paths, and each page stands on that of its bucket
pub covered_chains : (next bucket : ℕ → ℕ) (S P : ℕ) → next 0 ≡ 0 → S < P → IsLinked next bucket S P → OnSome next S P →
    IsCovered next bucket S P (chain next P)
covered_chains next bucket S P none some linked on =
    let follows : (i : ℕ) → i < S → IsPath next (1 + i) (chain next P i) =
    λ i l. ends next bucket S P none linked i l some in
    let own : (i p : ℕ) → i < S → stands_in (chain next P i) p ≡ true → (1 ≤ p) × (p < P) × (bucket p ≡ i) =
    λ i p l here.
    path_own next bucket S P none linked (chain next P i) (1 + i) i (follows i l)
    (λ _. (omega arith, linked.heads i l)) p here in
    record {
      follows = follows;
      own = own;
      all = λ p low high. let at = on p low high in let mine = own at.0 p at.1 at.2 in
          (rw mine.2 at.1, rw mine.2 at.2);
    }

-- so it is with other paths that are the same for each bucket
pub covered_same : (next bucket : ℕ → ℕ) (S P : ℕ) (path other : ℕ → List ℕ) → ((i : ℕ) → i < S → other i ≡ path i) →
    IsCovered next bucket S P path → IsCovered next bucket S P other
covered_same next bucket S P path other same c = record {
  follows = λ i l. rw (same i l) (c.follows i l);
  own = λ i p l here. c.own i p l (rw (same i l) at here);
  all = λ p low high. let at = c.all p low high in (at.0, rw (same (bucket p) at.0) at.1);
}

module _ (next bucket : ℕ → ℕ) (S P : ℕ) (path : ℕ → List ℕ) (none : next 0 ≡ 0)
    (covered : IsCovered next bucket S P path) where
  own_heads : (i : ℕ) → i < S → bucket (1 + i) ≡ i
  own_heads i l = (covered.own i (1 + i) l (begins next (path i) (1 + i) (covered.follows i l) (λ e. omega arith))).2

  -- the page that follows has the bucket of the page and stands on its path
  follower : (p : ℕ) → 1 ≤ p → p < P → next p ≢ 0 → (1 ≤ next p) × (next p < P) × (bucket (next p) ≡ bucket p)
  follower p low high more =
      let at = covered.all p low high in
      covered.own (bucket p) (next p) at.0
      (next_stands next (path (bucket p)) (1 + bucket p) p (covered.follows (bucket p) at.0) at.1 more)

  -- where a page stands on its path, and the path behind it
  behind : (p : ℕ) → 1 ≤ p → p < P →
      (k : ℕ) × (k < length (path (bucket p))) × (get_or (path (bucket p)) k 0 ≡ p)
      × IsPath next (next p) (drop (suc k) (path (bucket p)))
  behind p low high =
      let at = covered.all p low high in
      let here = path_at next (path (bucket p)) (1 + bucket p) p (covered.follows (bucket p) at.0) at.1 in
      let cut : drop here.0 (path (bucket p)) ≡
      get_or (path (bucket p)) here.0 0 ∷ drop (suc here.0) (path (bucket p)) =
      drop-cons (path (bucket p)) here.0 0 here.1 in
      let rest : IsPath next p (get_or (path (bucket p)) here.0 0 ∷ drop (suc here.0) (path (bucket p))) =
      rw cut at here.3 in
      (here.0, here.1, here.2, rest.2)

  -- pages that stand on the paths of their buckets are linked
  pub linked_from_covered : IsLinked next bucket S P
  linked_from_covered = record {
    heads = own_heads;
    within = λ p low high more. (follower p low high more).1;
    same = λ p low high more. (follower p low high more).2;
    no_head = λ p low high more. elim (cases_lt S (next p)) [
      | inl above ↦ above
      | inr below ↦
          let f = follower p low high more in
          let at = covered.all p low high in
          let b = behind p low high in
          let j : ℕ = next p - 1 in
          let is_head : 1 + j ≡ next p = omega arith in
          let mine : bucket p ≡ j = sym f.2 ∙ ap bucket (sym is_head) ∙ own_heads j (omega arith) in
          let back : 1 + bucket p ≡ next p = ap (λ (x : ℕ). 1 + x) mine ∙ is_head in
          let whole : IsPath next (next p) (path (bucket p)) = rw back at (covered.follows (bucket p) at.0) in
          let e : drop (suc b.0) (path (bucket p)) ≡ path (bucket p) =
          path_only next (drop (suc b.0) (path (bucket p))) (path (bucket p)) (next p) b.3 whole in
          absurd (omega (arith, length-drop (suc b.0) (path (bucket p)), ap length e, b.1))
    ];
    once = λ p q low high low2 high2 more e.
        let more2 : next q ≢ 0 = rw e at more in
        let f = follower p low high more in
        let g = follower q low2 high2 more2 in
        let same : bucket q ≡ bucket p = sym g.2 ∙ ap bucket (sym e) ∙ f.2 in
        let b = behind p low high in
        let c = behind q low2 high2 in
        let c1 : c.0 < length (path (bucket p)) = rw (← same) c.1 in
        let c2 : get_or (path (bucket p)) c.0 0 ≡ q = subst (λ (x : ℕ). get_or (path x) c.0 0 ≡ q) same c.2 in
        let c3 : IsPath next (next p) (drop (suc c.0) (path (bucket p))) =
        rw e (subst (λ (x : ℕ). IsPath next (next q) (drop (suc c.0) (path x))) same c.3) in
        let d : drop (suc b.0) (path (bucket p)) ≡ drop (suc c.0) (path (bucket p)) =
        path_only next (drop (suc b.0) (path (bucket p))) (drop (suc c.0) (path (bucket p))) (next p) b.3 c3 in
        let k : b.0 ≡ c.0 =
        omega (
          arith,
          length-drop (suc b.0) (path (bucket p)),
          length-drop (suc c.0) (path (bucket p)),
          ap length d,
          b.1,
          c1,
        ) in
        sym b.2 ∙ ap (λ (x : ℕ). get_or (path (bucket p)) x 0) k ∙ c2;
  }
