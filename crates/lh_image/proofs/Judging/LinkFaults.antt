-- The first fault between the pages, by the three that there are
use Rattle.std.proofs.Common.{◌≡◌, ℕ, ◌-◌, Bool, not, ◌||◌, List, [], ◌∷◌, map, Vec, Global, Some, None, refl, sym, ap}
use Rattle.std.proofs.Common.{◌∙◌}
use Rattle.std.specs.List.{range_with_len, find, list_any}
use Rattle.lh_image.specs.declared.fault.ImageFault.TheVariants.{Next, Twice, Never}
use Rattle.lh_image.specs.Chains.{Links, chain, stands_in}
use Rattle.lh_image.specs.Faults.{bad_next, named_twice, on_no_chain, least, link_rows, first_fault_of}
use Rattle.lh_image.specs.View.{numbers}
use Rattle.lh_image.proofs.Judging.Finding.{find_same}

-- where a page has a bad next page, the least such page is the first fault of links
pub links_next : (l : Links) (p : ℕ) → Some p ≡ least l.pages (bad_next l) →
    first_fault_of (link_rows l) ≡ Some (Next p)
unfolding first_fault_of
links_next l p e = rw (← e) refl

-- where none has one, the least page that is named twice is the first fault
pub links_twice : (l : Links) (p : ℕ) → None ≡ least l.pages (bad_next l) → Some p ≡ least l.pages (named_twice l) →
    first_fault_of (link_rows l) ≡ Some (Twice p)
unfolding first_fault_of
links_twice l p e f = rw (← e, ← f) refl

-- where none is named twice either, the least page on no chain is the first fault
pub links_never : (l : Links) (p : ℕ) → None ≡ least l.pages (bad_next l) → None ≡ least l.pages (named_twice l) →
    Some p ≡ least l.pages (on_no_chain l) → first_fault_of (link_rows l) ≡ Some (Never p)
unfolding first_fault_of
links_never l p e f g = rw (← e, ← f, ← g) refl

-- where there is none of the three, links have no fault
pub links_none : (l : Links) → None ≡ least l.pages (bad_next l) → None ≡ least l.pages (named_twice l) →
    None ≡ least l.pages (on_no_chain l) → first_fault_of (link_rows l) ≡ None
unfolding first_fault_of
links_none l e f g = rw (← e, ← f, ← g) refl

-- to test items through a function is to test the list that it makes of them
pub any_of_items : {V : Type 0} {Y : Type 0} (items : V → Y) (t : Y → Bool) (vs : List V) →
    list_any (λ v. t (items v)) vs ≡ list_any t (map items vs)
any_of_items items t [] = refl
any_of_items items t (v ∷ vs) = ap (λ (b : Bool). t (items v) || b) (any_of_items items t vs)

-- the pages that stand on the chains of all buckets
pub on_chains : (l : Links) (chains : List (Vec ℕ Global)) (p : ℕ) →
    map (λ (chain : Vec ℕ Global). chain.items) chains ≡ map (chain l.next l.pages) (range_with_len 0 l.heads) →
    list_any (λ (chain : Vec ℕ Global). stands_in chain.items p) chains ≡
    list_any (λ i. stands_in (chain l.next l.pages i) p) (range_with_len 0 l.heads)
on_chains l chains p made =
    any_of_items (λ (chain : Vec ℕ Global). chain.items) (λ xs. stands_in xs p) chains
    ∙ ap (list_any (λ xs. stands_in xs p)) made
    ∙ sym (any_of_items (chain l.next l.pages) (λ xs. stands_in xs p) (range_with_len 0 l.heads))

-- the first page that stands on none of the chains that were followed is the least page on no chain
pub never_same : (l : Links) (n : ℕ) (chains : List (Vec ℕ Global)) → l.pages ≡ n →
    map (λ (chain : Vec ℕ Global). chain.items) chains ≡ map (chain l.next l.pages) (range_with_len 0 l.heads) →
    find (λ p. not (list_any (λ (chain : Vec ℕ Global). stands_in chain.items p) chains)) (range_with_len 1 (n - 1)) ≡
    least l.pages (on_no_chain l)
unfolding numbers on_no_chain
never_same l n chains size made =
    rw (← size)
    (find_same (λ p. not (list_any (λ (chain : Vec ℕ Global). stands_in chain.items p) chains)) (on_no_chain l) 1
    (l.pages - 1) (λ p low high. ap not (on_chains l chains p made)))
