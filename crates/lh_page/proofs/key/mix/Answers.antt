use Rattle.std.proofs.Common.{◌≡◌, ℕ, ◌+◌, ◌*◌, ◌/◌, ◌%◌, ap, sym, ◌∙◌}
use Rattle.std.proofs.Math.Nat.{add-mod}
use Rattle.lh_page.specs.Mark.{mixed_words}
use Rattle.lh_page.proofs.key.mix.Goals as goal

-- a sum of seven numbers may be cut to a width after each step
sum-mod : (a b c d e f g m : ℕ) →
    ((((((a % m + b % m) % m + c % m) % m + d % m) % m + e % m) % m + f % m) % m + g % m) % m ≡
    (a + b + c + d + e + f + g) % m
sum-mod a b c d e f g m =
    ap (λ x. (((((x + c % m) % m + d % m) % m + e % m) % m + f % m) % m + g % m) % m) (sym (add-mod a b m))
    ∙ ap (λ x. ((((x + d % m) % m + e % m) % m + f % m) % m + g % m) % m) (sym (add-mod (a + b) c m))
    ∙ ap (λ x. (((x + e % m) % m + f % m) % m + g % m) % m) (sym (add-mod (a + b + c) d m))
    ∙ ap (λ x. ((x + f % m) % m + g % m) % m) (sym (add-mod (a + b + c + d) e m))
    ∙ ap (λ x. (x + g % m) % m) (sym (add-mod (a + b + c + d + e) f m))
    ∙ sym (add-mod (a + b + c + d + e + f) g m)

-- the same at words that are known by other names
mix-words : (q r s t u v w a b c d e f g : ℕ) (h i j k l n o m p : ℕ) → q ≡ a → r ≡ b → s ≡ c → t ≡ d → u ≡ e → v ≡ f →
    w ≡ g →
    ((((((q * h % m + r * i % m) % m + s * j % m) % m + t * k % m) % m + u * l % m) % m + v * n % m) % m
    + w * o % m) % m / p
    ≡ (a * h + b * i + c * j + d * k + e * l + f * n + g * o) % m / p
mix-words q r s t u v w a b c d e f g h i j k l n o m p e1 e2 e3 e4 e5 e6 e7 =
    rw (e1, e2, e3, e4, e5, e6, e7)
    (ap (λ x. x / p) (sum-mod (a * h) (b * i) (c * j) (d * k) (e * l) (f * n) (g * o) m))

pub returns : goal.returns
unfolding mixed_words
returns c =
    mix-words _ _ _ _ _ _ _ _ _ _ _ _ _ _ _ _ _ _ _ _ _ _ _
    c.word-first.ensures c.word-second.ensures c.word-third.ensures c.word-fourth.ensures c.word-fifth.ensures
    c.word-sixth.ensures c.word-last.ensures
