-- The records of a body, one by one.
use Rattle.std.proofs.Common.{◌≡◌, ℕ, ◌+◌, suc, List, [], ◌∷◌, ◌++◌, Option, None, Some, refl, ap, sym, ◌∙◌}
use Rattle.std.proofs.Common.{append_assoc}
use Rattle.std.proofs.Common.{append-nil}
use Rattle.std.specs.Prelude.{Ok, Err}
use Rattle.lh_page.specs.declared.pair.Pair.{Pair}
use Rattle.lh_exchange.specs.Exchanged.{RecordsOrFault, next_record, onto_records, record_fault, records_from}
use Rattle.lh_exchange.specs.Exchanged.{records_then}
use Rattle.lh_exchange.specs.declared.fault.StreamFault.{StreamFault}
use Rattle.lh_exchange.specs.declared.layout.Layout.{Layout}

-- records in front of others
abbrev pub behind_records : List Pair → RecordsOrFault → RecordsOrFault
behind_records front (Ok pairs) = Ok (front ++ pairs)
behind_records front (Err fault) = Err fault

-- the records from the next on
pub one_record : (layout : Layout) (first : Option ℕ) (most less before : ℕ) (bytes : List ℕ) → most ≡ suc less →
    records_from layout first most before bytes
    ≡ records_then first before (next_record layout bytes)
    (λ behind. records_from layout first less (before + 1) behind)
unfolding records_from
one_record layout first most less before bytes e = rw e refl

joined : (front : List Pair) (pair : Pair) (r : RecordsOrFault) →
    behind_records front (onto_records pair r) ≡ behind_records (front ++ pair ∷ []) r
joined front pair (Ok pairs) = ap (λ xs. Ok xs) (sym (append_assoc front (pair ∷ []) pairs))
joined front pair (Err fault) = refl

-- a record stands next
pub record_read : (all : RecordsOrFault) (layout : Layout) (first : Option ℕ) (most less before : ℕ)
    (front grown : List Pair) (pair : Pair) (rest behind : List ℕ) →
    all ≡ behind_records front (records_from layout first most before rest) → most ≡ suc less →
    next_record layout rest ≡ Ok (Some (pair, behind)) → grown ≡ front ++ pair ∷ [] →
    all ≡ behind_records grown (records_from layout first less (before + 1) behind)
record_read all layout first most less before front grown pair rest behind h e f g =
    h ∙ rw (one_record layout first most less before rest e, f, g)
    (joined front pair (records_from layout first less (before + 1) behind))

-- the end stands next
pub records_end : (all : RecordsOrFault) (layout : Layout) (first : Option ℕ) (most less before : ℕ)
    (front : List Pair) (rest : List ℕ) →
    all ≡ behind_records front (records_from layout first most before rest) → most ≡ suc less →
    next_record layout rest ≡ Ok None → all ≡ Ok front
records_end all layout first most less before front rest h e f =
    h ∙ rw (one_record layout first most less before rest e, f) (ap (λ xs. Ok xs) (append-nil front))

-- a fault stands next
pub record_faulty : (all : RecordsOrFault) (layout : Layout) (first : Option ℕ)
    (most less before : ℕ) (front : List Pair) (rest : List ℕ) (fault : StreamFault) →
    all ≡ behind_records front (records_from layout first most before rest) → most ≡ suc less →
    next_record layout rest ≡ Err fault → all ≡ Err (record_fault first before fault)
record_faulty all layout first most less before front rest fault h e f =
    h ∙ rw (one_record layout first most less before rest e, f) refl
