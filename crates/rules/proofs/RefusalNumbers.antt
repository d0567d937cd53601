-- A refusal's number is never 0, "done", and no two refusals have the same: so the number of an answer tells whether it is refused, and by which refusal.
use Prim.Native.Nat.{ℕ}
use mathlib.Core.Path.{◌≡◌, refl, sym, ◌∙◌, ap}
use lib.ListN.{get_or}
use mathlib.Core.List.{List, [], ◌∷◌}
use Rattle.rules.specs.declared.Refusal.{Refusal}
use Rattle.rules.specs.declared.Refusal.TheVariants as refused
use Rattle.rules.specs.RefusalNumber.{accepted, refusal_number}

pub no_refusal_accepted : (r : Refusal) → refusal_number r ≡ accepted → ⊥
no_refusal_accepted refused.ZeroNamed q = cc
no_refusal_accepted refused.NotLive q = cc
no_refusal_accepted refused.NotHeld q = cc
no_refusal_accepted refused.AlreadyLive q = cc
no_refusal_accepted refused.AlreadyHeld q = cc
no_refusal_accepted refused.TransactionState q = cc
no_refusal_accepted refused.EnlistmentState q = cc
no_refusal_accepted refused.Full q = cc
no_refusal_accepted refused.NoSuchDurable q = cc
no_refusal_accepted refused.NotFailedToNotify q = cc
no_refusal_accepted refused.DamagedLog q = cc
no_refusal_accepted refused.LogLength q = cc
no_refusal_accepted refused.LogTooShort q = cc
no_refusal_accepted refused.BadMessage q = cc
no_refusal_accepted refused.NotSound q = cc
no_refusal_accepted refused.UnreadableLine q = cc

-- the refusals in the order of their numbers
abbrev refusals : List Refusal
refusals =
    refused.ZeroNamed
    ∷ refused.ZeroNamed
    ∷ refused.NotLive
    ∷ refused.NotHeld
    ∷ refused.AlreadyLive
    ∷ refused.AlreadyHeld
    ∷ refused.TransactionState
    ∷ refused.EnlistmentState
    ∷ refused.Full
    ∷ refused.NoSuchDurable
    ∷ refused.NotFailedToNotify
    ∷ refused.DamagedLog
    ∷ refused.LogLength
    ∷ refused.LogTooShort
    ∷ refused.BadMessage
    ∷ refused.NotSound
    ∷ refused.UnreadableLine
    ∷ []

refusal_at : (r : Refusal) → get_or refusals (refusal_number r) refused.ZeroNamed ≡ r
refusal_at refused.ZeroNamed = refl
refusal_at refused.NotLive = refl
refusal_at refused.NotHeld = refl
refusal_at refused.AlreadyLive = refl
refusal_at refused.AlreadyHeld = refl
refusal_at refused.TransactionState = refl
refusal_at refused.EnlistmentState = refl
refusal_at refused.Full = refl
refusal_at refused.NoSuchDurable = refl
refusal_at refused.NotFailedToNotify = refl
refusal_at refused.DamagedLog = refl
refusal_at refused.LogLength = refl
refusal_at refused.LogTooShort = refl
refusal_at refused.BadMessage = refl
refusal_at refused.NotSound = refl
refusal_at refused.UnreadableLine = refl

pub same_refusal : (r s : Refusal) → refusal_number r ≡ refusal_number s → r ≡ s
same_refusal r s q = sym (refusal_at r) ∙ ap (λ n. get_or refusals n refused.ZeroNamed) q ∙ refusal_at s
