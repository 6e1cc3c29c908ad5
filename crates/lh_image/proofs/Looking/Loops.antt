-- Why a look-up has a fault: a page has it by itself, or the chain comes to a page again
use Rattle.std.proofs.Common.{◌≡◌, ◌≢◌, ℕ, zero, suc, ◌+◌, ◌-◌, ◌<◌, ◌≤◌, ◌⊎◌, inl, inr, true, eqb, List, Option, Some}
use Rattle.std.proofs.Common.{None, Result, Ok, Err, refl, sym, ap, ◌∙◌, arith}
use Rattle.std.specs.List.{list_any}
use Rattle.std.proofs.lemmas.Bool.{cases_eq, cases_order, cases_Bool, eq-eqb, ne_eqb, or_left, or_right, false≢true}
use Rattle.lh_addr.specs.Fnv.{code_of}
use Rattle.lh_addr.specs.Growth.{AddressLaw}
use Rattle.lh_image.specs.declared.fault.ImageFault.{ImageFault}
use Rattle.lh_image.specs.declared.fault.ImageFault.TheVariants.{Twice}
use Rattle.lh_image.specs.Chains.{pages_from, stands_in}
use Rattle.lh_image.specs.LookUp.{FaultLaw, found_first, found_from, home_of, look_up, own_fault, value_in}
use Rattle.lh_image.specs.View.{View, initial, buckets, next, page_count}
use Rattle.lh_image.proofs.Looking.Steps.{found_end, found_more, found_twice, next_within}
use Rattle.lh_image.proofs.Paths.Pigeons.{pigeonhole}
use Rattle.lh_image.proofs.Paths.Walks.{walk, walk_on}

-- ---- a walk among fewer pages than it has steps comes back

walk_add : (next : ℕ → ℕ) (h a d : ℕ) → walk next h (a + d) ≡ walk next (walk next h a) d
unfolding walk
walk_add next h a zero = let e : a + 0 ≡ a = omega arith in ap (walk next h) e
walk_add next h a (suc d) =
    let e : a + suc d ≡ suc (a + d) = omega arith in ap (walk next h) e ∙ ap next (walk_add next h a d)

-- the page after j steps is among the pages that come from a page
on_way : (next : ℕ → ℕ) (n p j : ℕ) → j < n → ((i : ℕ) → i ≤ j → walk next p i ≢ 0) →
    stands_in (pages_from next n p) (walk next p j) ≡ true
unfolding pages_from stands_in walk
on_way next zero p j low alive = absurd (omega arith)
on_way next (suc n) p zero low alive =
    rw (ne_eqb p 0 (alive 0 (omega arith)))
    (or_left (eqb p p) (list_any (λ q. eqb q p) (pages_from next n (next p))) (eq-eqb p p refl))
on_way next (suc n) p (suc j) low alive =
    let rest = on_way next n (next p) j (omega arith) (λ i le. rw (walk_on next p i) (alive (suc i) (omega arith))) in
    let q : ℕ = next (walk next p j) in
    let at : stands_in (pages_from next n (next p)) q ≡ true =
    ap (stands_in (pages_from next n (next p))) (sym (walk_on next p j)) ∙ rest in
    rw (ne_eqb p 0 (alive 0 (omega arith)))
    (or_right (eqb p q) (list_any (λ x. eqb x q) (pages_from next n (next p))) at)

module _ (next : ℕ → ℕ) (P h : ℕ) (within : (k : ℕ) → k ≤ P → (1 ≤ walk next h k) × (walk next h k < P)) where
  -- the last page of the walk, met before, leads to itself
  leads : (m : ℕ) → m < P → walk next h m ≡ walk next h P →
      stands_in (pages_from next P (next (walk next h P))) (walk next h P) ≡ true
  unfolding walk
  leads m low same =
      let p : ℕ = walk next h P in
      let t : ℕ = P - m - 1 in
      let from : (i : ℕ) → i ≤ t → walk next (next p) i ≡ walk next h (m + suc i) =
      λ i le. walk_on next p i ∙ ap (λ x. walk next x (suc i)) (sym same) ∙ sym (walk_add next h m (suc i)) in
      let last : m + suc t ≡ P = omega arith in
      let back : walk next (next p) t ≡ p = from t (omega arith) ∙ ap (walk next h) last in
      ap (stands_in (pages_from next P (next p))) (sym back)
      ∙ on_way next P (next p) t (omega arith)
      (λ i le z. let w = within (m + suc i) (omega arith) in let f = from i le in omega arith)

  comes_back : stands_in (pages_from next P (next (walk next h P))) (walk next h P) ≡ true
  comes_back = elim (cases_Bool (stands_in (pages_from next P (next (walk next h P))) (walk next h P))) [
    | inl there ↦ there
    | inr missing ↦
        let apart : (m : ℕ) → m < P → walk next h m ≡ walk next h P → ⊥ =
        λ m low same. false≢true (sym missing ∙ leads m low same) in
        let less : (j k : ℕ) → j < k → k < P → walk next h j ≡ walk next h k → ⊥ =
        λ j k lt low e.
        let end : k + (P - k) ≡ P = omega arith in
        apart (j + (P - k)) (omega arith)
        (walk_add next h j (P - k) ∙ ap (λ x. walk next x (P - k)) e ∙ sym (walk_add next h k (P - k))
        ∙ ap (walk next h) end) in
        let one : (j k : ℕ) → j < P → k < P → walk next h j - 1 ≡ walk next h k - 1 → j ≡ k =
        λ j k lj lk e.
        let wj = within j (omega arith) in
        let wk = within k (omega arith) in
        let same : walk next h j ≡ walk next h k = omega arith in
        elim (cases_order j k) [
          | inl eq ↦ eq
          | inr other ↦
              elim other [ inl lt ↦ absurd (less j k lt lk same) | inr gt ↦ absurd (less k j gt lj (sym same)) ]
        ] in
        let zero_in = within 0 (omega arith) in
        let full : P ≤ P - 1 =
        pigeonhole P (P - 1) (λ k. walk next h k - 1) (λ k low. let w = within k (omega arith) in omega arith)
        one in
        absurd (omega arith)
  ]

-- ---- how a look-up comes to a fault

abbrev Stays : View → ℕ → ℕ → Type 0
Stays v n p = (k : ℕ) → k ≤ n → (1 ≤ walk (next v) p k) × (walk (next v) p k < page_count v)

abbrev HasOwn : View → List ℕ → ℕ → ℕ → ImageFault → Type 0
HasOwn v key n p f = (q : ℕ) × (stands_in (pages_from (next v) n p) q ≡ true) × (own_fault v (home_of v key) q ≡ Some f)

same_err : (f g : ImageFault) → ◌≡◌ {A = Result (Option (List ℕ)) ImageFault} (Err f) (Err g) → f ≡ g
same_err f g e = cc

no_err : (f : ImageFault) (o : Option (List ℕ)) {G : Type 0} →
    ◌≡◌ {A = Result (Option (List ℕ)) ImageFault} (Ok o) (Err f) → G
no_err f o e = cc

stays_more : (v : View) (n p : ℕ) → 1 ≤ p → p < page_count v → Stays v n (next v p) → Stays v (suc n) p
unfolding walk
stays_more v n p low high rest zero le = (low, high)
stays_more v n p low high rest (suc k) le = let r = rest k (omega arith) in rw (← walk_on (next v) p k) r

fault_by : (v : View) (key : List ℕ) (n p : ℕ) (f : ImageFault) (o : Option ImageFault) (w : Option (List ℕ)) →
    own_fault v (home_of v key) p ≡ o → p ≢ 0 → 1 ≤ p → p < page_count v →
    (own_fault v (home_of v key) p ≡ None → found_from v key n (next v p) ≡ Err f →
    HasOwn v key n (next v p) f ⊎ ((f ≡ Twice (walk (next v) (next v p) n)) × Stays v n (next v p))) →
    found_first o w (found_from v key n (next v p)) ≡ Err f →
    HasOwn v key (suc n) p f ⊎ ((f ≡ Twice (walk (next v) p (suc n))) × Stays v (suc n) p)
unfolding pages_from stands_in walk
fault_by v key n p f (Some g) w own some low high later e =
    inl (
      p,
      rw (ne_eqb p 0 some)
          (or_left (eqb p p) (list_any (λ q. eqb q p) (pages_from (next v) n (next v p))) (eq-eqb p p refl)),
      own ∙ ap Some (same_err g f e),
    )
fault_by v key n p f None (Some x) own some low high later e = no_err f (Some x) e
fault_by v key n p f None None own some low high later e = elim (later own e) [
  | inl r ↦
      inl (
        r.0,
        rw (ne_eqb p 0 some)
            (or_right (eqb p r.0) (list_any (λ q. eqb q r.0) (pages_from (next v) n (next v p))) r.1),
        r.2,
      )
  | inr r ↦ inr (r.0 ∙ ap Twice (walk_on (next v) p n), stays_more v n p low high r.1)
]

comes_to : (v : View) (key : List ℕ) (n p : ℕ) (f : ImageFault) → p ≢ 0 → 1 ≤ p → p < page_count v →
    found_from v key n p ≡ Err f → HasOwn v key n p f ⊎ ((f ≡ Twice (walk (next v) p n)) × Stays v n p)
unfolding walk
comes_to v key zero p f some low high e =
    inr (
      sym (same_err (Twice p) f (sym (found_twice v key p some) ∙ e)),
      λ k le. let z : k ≡ 0 =
          omega arith in rw z (low, high),
    )
comes_to v key (suc n) p f some low high e =
    fault_by v key n p f (own_fault v (home_of v key) p) (value_in key (v.records p)) refl some low high
    (λ good rest. elim (cases_eq (next v p) 0) [
      | inl none ↦ no_err f None (sym (found_end v key n) ∙ ap (found_from v key n) (sym none) ∙ rest)
      | inr more ↦ let at =
          next_within v (home_of v key) p good more in comes_to v key n (next v p) f more (omega arith) at.1 rest
    ]) (sym (found_more v key (suc n) n p refl some) ∙ e)

-- a look-up's fault is that of a page of the key's chain, or names a page that leads back to itself
pub fault_law : AddressLaw → FaultLaw
unfolding look_up home_of
fault_law addresses v key f some from room e =
    let home : ℕ = home_of v key in
    let low : home < buckets v = ((addresses (initial v) (buckets v) (code_of key) home some from).0 refl).0 in
    elim (comes_to v key (page_count v) (1 + home) f (λ z. omega arith) (omega arith) (omega arith) e) [
      | inl own ↦ inl own
      | inr back ↦
          inr (walk (next v) (1 + home) (page_count v), back.0, comes_back (next v) (page_count v) (1 + home) back.1)
    ]
