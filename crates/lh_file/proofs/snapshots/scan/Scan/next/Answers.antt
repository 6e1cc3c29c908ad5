use Rattle.std.proofs.Common.{rules, ◌≡◌, ◌-◌, ◌^◌, ◌<◌, Some, List, [], ◌∷◌, ◌++◌, length, get_or, refl, sym, ap, ◌∙◌}
use Rattle.std.proofs.Common.{subst, arith}
use Rattle.std.specs.Option.{option_to_list}
use Rattle.std.proofs.lemmas.Nat.{pow_pos}
use Rattle.lh_addr.specs.declared.aim.Aim.{Aim}
use Rattle.lh_words.specs.History.Buckets.{bit}
use Rattle.lh_file.specs.Snapshots.Scans.{IsWithin, Scanning, leads, times_aimed, ahead, HasMet}
use Rattle.lh_words.specs.Rule.{Each}
use Rattle.lh_words.specs.Sums.{total}
use Rattle.lh_file.proofs.OfSnapshots.Aims.{at_level, aimed-snoc, room_of, ahead-snoc}
use Rattle.lh_file.proofs.OfSnapshots.Held.{each_end, each_front}
use Rattle.lh_file.proofs.snapshots.scan.Scan.next.Goals as goal

pub push_raised-requires-clause-reached : goal.push_raised-requires-clause-reached
push_raised-requires-clause-reached g c =
    let aims : List Aim = c.self.inside.aims.items in
    let below : length aims - 1 < length aims = search rules in
    let last : c.in-Some.aim ≡ get_or aims (length aims - 1) c.in-Some.aim = search rules in
    (each_end (IsWithin c.self.inside.initial) aims (length aims - 1) c.in-Some.aim below last
    c.self.invariant.within).reached

pub push_raised-requires-clause-within : goal.push_raised-requires-clause-within
push_raised-requires-clause-within g c =
    each_front (IsWithin c.self.inside.initial) c.pop.new.self.items (option_to_list c.pop.result)
    (subst (λ (l : List Aim). Each l (IsWithin c.self.inside.initial)) c.pop.ensures.items
    (subst (λ (l : List Aim). Each l (IsWithin c.self.inside.initial)) (sym c.try_reserve.ensures.items)
    c.self.invariant.within))

pub returns-clause-met : goal.returns-clause-met
returns-clause-met g c =
    let first = c.self.inside.initial in
    let rest : List Aim = c.pop.new.self.items in
    let copy = c.in_ok-copy.copy in
    let aim : Aim = c.in-Some.aim in
    let top : c.pop.result ≡ Some aim = search rules in
    let cut : c.self.inside.aims.items ≡ rest ++ aim ∷ [] =
    sym c.try_reserve.ensures.items ∙ c.pop.ensures.items ∙ ap (λ o. rest ++ option_to_list o) top in
    subst (λ (s : Scanning). HasMet s copy.aim (record { initial = first; aims = c.push_raised.new.aims.items }))
    c.self.view_is (
      refl,
      λ code.
          let same = ap (λ b. bit (leads first code (at_level copy.aim.level b))) c.in_ok-copy.ensures.bucket in
          omega (
            arith,
            ap (times_aimed first code) cut,
            aimed-snoc first code rest aim,
            c.push_raised.ensures.all code,
            same,
          ),
    )

pub returns-clause-fewer : goal.returns-clause-fewer
returns-clause-fewer g c =
    let rest : List Aim = c.pop.new.self.items in
    let copy = c.in_ok-copy.copy in
    let aim : Aim = c.in-Some.aim in
    let top : c.pop.result ≡ Some aim = search rules in
    let cut : c.self.inside.aims.items ≡ rest ++ aim ∷ [] =
    sym c.try_reserve.ensures.items ∙ c.pop.ensures.items ∙ ap (λ o. rest ++ option_to_list o) top in
    let some : 0 < 2 ^ (16 - copy.aim.level) = pow_pos (16 - copy.aim.level) in
    subst
    (λ (s : Scanning).
    ahead (record { initial = c.self.inside.initial; aims = c.push_raised.new.aims.items }) < ahead s)
    c.self.view_is
    (omega (arith, ap (total room_of) cut, ahead-snoc rest aim, c.push_raised.ensures.ahead, some))
