-- Which elements of a list pass a test.
use Rattle.std.specs.Prelude.{ℕ, suc, Bool, true, false, cond, not, ◌&&◌, ◌||◌, List, [], ◌∷◌}

-- each one passes
unfoldable pub all : {A : Type 0} → (A → Bool) → List A → Bool
all f [] = true
all f (x ∷ xs) = f x && all f xs

-- at least one passes
unfoldable pub any : {A : Type 0} → (A → Bool) → List A → Bool
any f [] = false
any f (x ∷ xs) = f x || any f xs

abbrev pub none : {A : Type 0} → (A → Bool) → List A → Bool
none f xs = not (any f xs)

-- those that pass, in their order
unfoldable pub filter : {A : Type 0} → (A → Bool) → List A → List A
filter f [] = []
filter f (x ∷ xs) = cond (f x) (x ∷ filter f xs) (filter f xs)

-- how many pass
unfoldable pub count : {A : Type 0} → (A → Bool) → List A → ℕ
count f [] = 0
count f (x ∷ xs) = cond (f x) (suc (count f xs)) (count f xs)

-- the first that passes, and d if none does
unfoldable pub first_or : {A : Type 0} → A → (A → Bool) → List A → A
first_or d f [] = d
first_or d f (x ∷ xs) = cond (f x) x (first_or d f xs)

-- no two are alike
unfoldable pub differ : {A : Type 0} → (A → A → Bool) → List A → Bool
differ alike [] = true
differ alike (x ∷ xs) = none (alike x) xs && differ alike xs

-- all of these hold
unfoldable pub every : List Bool → Bool
every [] = true
every (b ∷ bs) = b && every bs
