-- Records as they are written.
use Rattle.std.proofs.Common.{◌≡◌, ℕ, ◌<◌, ◌≤◌, List, [], ◌∷◌, ◌++◌, length, refl, ◌∙◌, arith, append_assoc}
use Rattle.std.specs.Prelude.{codes}
use Rattle.std.specs.Fmt.{decimal}
use Rattle.std.proofs.lemmas.Fmt.{length-decimal-le}
use Rattle.lh_page.specs.declared.pair.Pair.{Pair}
use Rattle.lh_exchange.specs.StreamTexts.{cdb_text, db_text, digits_line}

-- a number below 1000 has three digits at most
pub few_digits : (n : ℕ) (digits : List ℕ) → n < 1000 → digits ≡ decimal n → length digits ≤ 3
few_digits n digits lt e = rw e (length-decimal-le 3 n (omega arith) (omega arith) (omega arith))

regroup : (a b c d e f g h i : List ℕ) →
    (((((((a ++ b) ++ c) ++ d) ++ e) ++ f) ++ g) ++ h) ++ i ≡ a ++ (b ++ (c ++ (d ++ (e ++ (f ++ (g ++ (h ++ i)))))))
regroup a b c d e f g h i = simp append_assoc

-- the parts of a record of cdb, written one behind another
pub cdb_written : (pair : Pair) (a b c d e f g h i k v plus comma colon arrow lf : List ℕ) → a ≡ [] ++ plus →
    b ≡ a ++ decimal (length k) → c ≡ b ++ comma → d ≡ c ++ decimal (length v) → e ≡ d ++ colon → f ≡ e ++ k →
    g ≡ f ++ arrow → h ≡ g ++ v → i ≡ h ++ lf → k ≡ pair.key → v ≡ pair.value → plus ≡ codes "+" →
    comma ≡ codes "," → colon ≡ codes ":" → arrow ≡ codes "->" → lf ≡ 10 ∷ [] → i ≡ cdb_text pair
unfolding cdb_text
cdb_written pair a b c d e f g h i k v plus comma colon arrow lf ea eb ec ed ee ef eg eh ei ek ev p q r s t =
    ei
    ∙ rw (eh, eg, ef, ee, ed, ec, eb, ea)
    (regroup plus (decimal (length k)) comma (decimal (length v)) colon k arrow v lf
    ∙ rw (ek, ev, p, q, r, s, t) refl)

-- the two lines of a record of db
pub db_written : (pair : Pair) (a b k v : List ℕ) → a ≡ [] ++ digits_line k → b ≡ a ++ digits_line v → k ≡ pair.key →
    v ≡ pair.value → b ≡ db_text pair
unfolding db_text
db_written pair a b k v ea eb ek ev = eb ∙ rw (ea, ek, ev) refl
