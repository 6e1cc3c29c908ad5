-- What is kept and noted of the header alone
use Rattle.std.proofs.Common.{◌≡◌, ℕ, zero, suc, List, [], ◌∷◌, Option, None, refl, arith}
use Rattle.lh_page.specs.declared.pair.Pair.{Pair}
use Rattle.lh_image.specs.declared.header.Header.{Header}
use Rattle.lh_image.specs.declared.judge.page_checks.PageFaults.{PageFaults}
use Rattle.lh_image.specs.declared.table.PageEntry.{PageEntry}
use Rattle.lh_image.specs.Header.{HasHeader}
use Rattle.lh_image.specs.Layout.{view_of}
use Rattle.lh_image.specs.Pages.{HaveCome}
use Rattle.lh_image.specs.Table.{no_entry, entry_at, next_in, bucket_in, AreWithin}

first_entry : (p : ℕ) → entry_at (no_entry ∷ []) p ≡ no_entry
first_entry zero = refl
first_entry (suc p) = refl

-- with the header's entry alone, each page's records lie among those of all
pub within_first : (entries : List PageEntry) (pairs : List Pair) → entries ≡ no_entry ∷ [] → AreWithin entries pairs
within_first entries pairs e p = rw (e, first_entry p) (omega arith)

-- where a header was read without a fault, its page came, with its entry alone and nothing noted
pub come_first : (bytes : List ℕ) (header : Header) (entries : List PageEntry) (pairs : List Pair) (faults : PageFaults)
    (now : Option (List ℕ)) → entries ≡ no_entry ∷ [] →
    faults ≡ record { kind = None; bucket = None; level = None; used = None; slot = None; sum = 0 } →
    HasHeader header bytes now → HaveCome bytes header 1 entries pairs faults
unfolding view_of next_in bucket_in
come_first bytes header entries pairs faults now first none has = record {
  fields = has.fields;
  kept = record {
    size = rw first refl;
    next = λ p less. let at : p ≡ 0 = omega arith in rw (at, first) refl;
    bucket = λ p less. let at : p ≡ 0 = omega arith in rw (at, first) refl;
    records = λ p from less plain none. absurd (omega arith);
  };
  noted = rw none (record { sum = refl; kind = refl; bucket = refl; level = refl; used = refl; slot = refl });
  enough = omega (arith, has.size);
  each_byte = λ i low. has.each_byte i (omega arith);
}
