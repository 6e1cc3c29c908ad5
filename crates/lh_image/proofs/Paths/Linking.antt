-- The faults of bucket numbers, of `next`, of pages named twice and of pages on no chain are those of linked pages.
use Rattle.std.proofs.Common.{◌≡◌, ◌≢◌, ℕ, ◌+◌, ◌-◌, ◌<◌, ◌≤◌, inl, inr, Bool, true, false, not, ◌||◌, ◌&&◌, eqb, leb}
use Rattle.std.proofs.Common.{refl, sym, ap, ◌∙◌, ◌↔◌, arith}
use Rattle.std.specs.List.{range_with_len, count_by}
use Rattle.std.proofs.lemmas.Bool.{cases_eq, cases_order, eqb-true, eq-eqb, leb-false, lt-leb, not-false, not_from_true}
use Rattle.std.proofs.lemmas.Bool.Decides.{nat_tests}
use Rattle.lh_image.specs.Chains.{stands_in, IsLinked}
use Rattle.lh_image.specs.Faults.{at_head, bad_bucket, bad_next, names, named_twice, on_no_chain}
use Rattle.lh_image.specs.View.{View, IsView, buckets, page_count, bucket, next, links, chain_of}
use Rattle.lh_image.proofs.Faults.Ranges.{any_of, any_from, count_two, count_few}

-- a test fails at each page
abbrev pub Clean : ℕ → (ℕ → Bool) → Type 0
Clean P test = (p : ℕ) → 1 ≤ p → p < P → test p ≡ false

-- every page is on the chain of some bucket
abbrev pub OnChains : View → Type 0
OnChains v = (p : ℕ) → 1 ≤ p → p < page_count v → (i : ℕ) × (i < buckets v) × (stands_in (chain_of v i) p ≡ true)

-- over plain numbers: b and c are a page's bucket and its next page's
pub bucket_rule : (b p S : ℕ) → ((leb p S && not (eqb b (p - 1))) || leb S b ≡ false) ↔ ((p ≤ S → b ≡ p - 1) × (b < S))
bucket_rule b p S = (λ e. (λ l. grind (arith, nat_tests), grind (arith, nat_tests)), λ (e, f). grind (arith, nat_tests))

-- x is the next page
pub next_rule : (x S P b c : ℕ) →
    (not (eqb x 0) && (leb x S || leb P x || not (eqb c b)) ≡ false) ↔ (x ≢ 0 → (S < x) × (x < P) × (c ≡ b))
next_rule x S P b c = (
  λ e more.
      (grind (arith, nat_tests), grind (arith, nat_tests), grind (arith, nat_tests)),
  λ f. grind (arith, nat_tests),
)

-- where no page has a bad bucket or a bad next page, or is named twice, the pages are linked
pub linked_from_clean : (v : View) → buckets v < page_count v → Clean (page_count v) (at_head bad_bucket v) →
    Clean (page_count v) (bad_next (links v)) → Clean (page_count v) (named_twice (links v)) →
    IsLinked (next v) (bucket v) (buckets v) (page_count v)
unfolding bad_bucket bad_next names
linked_from_clean v some clean_bucket clean_next clean_twice =
    let S : ℕ = buckets v in
    let P : ℕ = page_count v in
    let on : (p : ℕ) → 1 ≤ p → p < P → next v p ≢ 0 →
    (S < next v p) × (next v p < P) × (bucket v (next v p) ≡ bucket v p) =
    λ p low high more. (next_rule (next v p) S P (bucket v p) (bucket v (next v p))).0 (clean_next p low high) more in
    let twice : (p q : ℕ) → 1 ≤ p → p < q → q < P → next v p ≢ 0 → next v p ≡ next v q → ⊥ =
    λ p q low lt high more e.
    let at = on p low (omega arith) more in
    let few = clean_twice (next v p) (omega arith) at.1 in
    let two =
    count_two (λ r. eqb (next v r) (next v p)) 0 P p q (omega arith) lt (omega arith)
    (eq-eqb (next v p) (next v p) refl) (eq-eqb (next v q) (next v p) (sym e)) in
    omega (arith, leb-false 2 (count_by (λ r. eqb (next v r) (next v p)) (range_with_len 0 P)) few) in
    record {
      heads =
          λ i l.
          let r = (bucket_rule (bucket v (1 + i)) (1 + i) S).0 (clean_bucket (1 + i) (omega arith) (omega arith)) in
          omega (arith, r.0 (omega arith));
      within = λ p low high more. (on p low high more).1;
      no_head = λ p low high more. (on p low high more).0;
      same = λ p low high more. (on p low high more).2;
      once = λ p q low high low2 high2 more e. elim (cases_order p q) [
        | inl same ↦ same
        | inr other ↦ elim other [
          | inl lt ↦ absurd (twice p q low lt high2 more e)
          | inr gt ↦ absurd (twice q p low2 gt high (rw e at more) (sym e))
        ]
      ];
    }

-- where no page is on no chain, each is on the chain of some bucket
pub on_from_clean : (v : View) → Clean (page_count v) (on_no_chain (links v)) → OnChains v
unfolding on_no_chain
on_from_clean v clean p low high =
    let r = any_of (λ i. stands_in (chain_of v i) p) 0 (buckets v) (not-false _ (clean p low high)) in
    (r.0, omega (arith, r.2), r.3)

-- ---- and back

-- linked pages, of buckets that the file has, have no bad bucket
pub clean_bucket_from : (v : View) → ((p : ℕ) → 1 ≤ p → p < page_count v → bucket v p < buckets v) →
    IsLinked (next v) (bucket v) (buckets v) (page_count v) → Clean (page_count v) (at_head bad_bucket v)
unfolding bad_bucket
clean_bucket_from v below linked p low high =
    (bucket_rule (bucket v p) p (buckets v)).1 (
      λ l.
          let i : ℕ = p - 1 in
          let e : 1 + i ≡ p = omega arith in
          sym (ap (bucket v) e) ∙ linked.heads i (omega arith),
      below p low high,
    )

-- linked pages have no bad next page
pub clean_next_from : (v : View) → IsLinked (next v) (bucket v) (buckets v) (page_count v) →
    Clean (page_count v) (bad_next (links v))
unfolding bad_next
clean_next_from v linked p low high =
    (next_rule (next v p) (buckets v) (page_count v) (bucket v p) (bucket v (next v p))).1
    (λ more. (linked.no_head p low high more, linked.within p low high more, linked.same p low high more))

-- linked pages aren't named twice
pub clean_twice_from : (v : View) → IsView v → IsLinked (next v) (bucket v) (buckets v) (page_count v) →
    Clean (page_count v) (named_twice (links v))
unfolding names
clean_twice_from v view linked p low high =
    let few = count_few (λ q. eqb (next v q) p) 0 (page_count v) (λ q r a lt b e f.
    let e1 : next v q ≡ p = eqb-true (next v q) p e in
    let f1 : next v r ≡ p = eqb-true (next v r) p f in
    elim (cases_eq q 0) [
      | inl first ↦ omega (arith, e1, ap (next v) first, view.none)
      | inr other ↦
          let same =
          linked.once q r (omega arith) (omega arith) (omega arith) (omega arith) (λ z. omega (arith, e1, z))
          (e1 ∙ sym f1) in
          omega arith
    ]) in
    lt-leb 2 (count_by (λ q. eqb (next v q) p) (range_with_len 0 (page_count v))) (omega arith)

-- where each page is on the chain of some bucket, no page is on no chain
pub clean_chains_from : (v : View) → OnChains v → Clean (page_count v) (on_no_chain (links v))
unfolding on_no_chain
clean_chains_from v on p low high =
    let at = on p low high in
    not_from_true _
    (any_from (λ i. stands_in (chain_of v i) p) 0 (buckets v) at.0 (omega arith) (omega (arith, at.1)) at.2)
