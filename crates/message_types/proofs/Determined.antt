-- Whether there is an answer is given, and which number it then is.
use Rattle.std.proofs.Common.{◌≡◌, ℕ, Option, Some, None, ap, sym, ◌∙◌}
use Rattle.std.specs.Option.{is_some, unwrap_or}
use Rattle.rules.specs.Messages.{is_type, payload_of}

same : (r s : Option ℕ) → is_some r ≡ is_some s → unwrap_or r 0 ≡ unwrap_or s 0 → r ≡ s
same None None a b = cc
same None (Some y) a b = cc
same (Some x) None a b = cc
same (Some x) (Some y) a b = ap (λ n. Some n) b

pub payload_of_determined : (kind : ℕ) {r s : Option ℕ} → (is_some r ≡ is_type kind) × (unwrap_or r 0 ≡ payload_of kind) → (is_some s ≡ is_type kind) × (unwrap_or s 0 ≡ payload_of kind) → r ≡ s
payload_of_determined kind {r} {s} (a, b) (c, d) = same r s (a ∙ sym c) (b ∙ sym d)
