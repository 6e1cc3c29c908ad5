-- Records as cdb has them, step by step.
use Rattle.std.proofs.Common.{◌≡◌, ◌≢◌, ℕ, ◌<◌, Bool, true, false, List, [], ◌∷◌, length, drop, refl, ◌==◌, arith}
use Rattle.std.proofs.Common.{get_or}
use Rattle.std.specs.Prelude.{Ok, Err}
use Rattle.std.proofs.lemmas.Bool.Decides.{nat_tests}
use Rattle.lh_exchange.specs.Cdb.{as_next, cdb_record, length_until, next_cdb, pair_of_lengths}
use Rattle.lh_exchange.specs.StreamParts.{at_end}
use Rattle.lh_exchange.specs.declared.fault.StreamFault.{StreamFault}
use Rattle.lh_exchange.specs.declared.fault.StreamFault.TheVariants.{NoEnd, NotARecord}

-- a record's two lengths: a fault of the first, one of the second, or none
pub first_faulty : (bytes : List ℕ) (fault : StreamFault) → length_until 44 bytes ≡ Err fault →
    cdb_record bytes ≡ Err fault
unfolding cdb_record
first_faulty bytes fault e = rw e refl

pub second_faulty : (bytes rest : List ℕ) (key : ℕ) (fault : StreamFault) → length_until 44 bytes ≡ Ok (key, rest) →
    length_until 58 rest ≡ Err fault → cdb_record bytes ≡ Err fault
unfolding cdb_record
second_faulty bytes rest key fault e f = rw (e, f) refl

pub both_lengths : (bytes rest behind : List ℕ) (key value : ℕ) → length_until 44 bytes ≡ Ok (key, rest) →
    length_until 58 rest ≡ Ok (value, behind) → cdb_record bytes ≡ pair_of_lengths key value behind
unfolding cdb_record
both_lengths bytes rest behind key value e f = rw (e, f) refl

pub ruleset two_lengths = (first_faulty, second_faulty, both_lengths)

-- what stands next: nothing, the end, a record, or something else
pub next_of_none : (bytes : List ℕ) → length bytes ≡ 0 → next_cdb bytes ≡ Err NoEnd
unfolding next_cdb
next_of_none [] e = refl
next_of_none (c ∷ cs) e = absurd (omega arith)

pub next_at_end : (bytes : List ℕ) → 0 < length bytes → get_or bytes 0 0 ≡ 10 → next_cdb bytes ≡ at_end (drop 1 bytes)
unfolding next_cdb
next_at_end [] lt e = absurd (omega arith)
next_at_end (c ∷ cs) lt e = rw e refl

by_first : (a b : Bool) (c : ℕ) (cs : List ℕ) → (c == 10) ≡ a → (c == 43) ≡ b → c ≢ 10 → c ≢ 43 →
    next_cdb (c ∷ cs) ≡ Err NotARecord
unfolding next_cdb
by_first true b c cs e f h k = absurd (h (grind (arith, nat_tests)))
by_first false true c cs e f h k = absurd (k (grind (arith, nat_tests)))
by_first false false c cs e f h k = rw (e, f) refl

pub next_elsewhere : (bytes : List ℕ) → 0 < length bytes → get_or bytes 0 0 ≢ 10 → get_or bytes 0 0 ≢ 43 →
    next_cdb bytes ≡ Err NotARecord
next_elsewhere [] lt h k = absurd (omega arith)
next_elsewhere (c ∷ cs) lt h k = by_first (c == 10) (c == 43) c cs refl refl h k

pub next_at_plus : (bytes : List ℕ) → 0 < length bytes → get_or bytes 0 0 ≡ 43 →
    next_cdb bytes ≡ as_next (cdb_record (drop 1 bytes))
unfolding next_cdb
next_at_plus [] lt e = absurd (omega arith)
next_at_plus (c ∷ cs) lt e = rw e refl

pub ruleset nexts = (next_of_none, next_at_end, next_elsewhere, next_at_plus)
