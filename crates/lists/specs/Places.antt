-- A list as a row of places, numbered from 1; place 0 is none.
use Rattle.std.specs.Prelude.{ℕ, suc, Bool, true, cond, ◌&&◌, List, [], ◌∷◌, eqb}

-- the first place that passes the test, 0 if none does; the places are numbered from k
unfoldable pub place_from : {A : Type 0} → (A → Bool) → ℕ → List A → ℕ
place_from f k [] = 0
place_from f k (x ∷ xs) = cond (f x) k (place_from f (suc k) xs)

abbrev pub place_of : {A : Type 0} → (A → Bool) → List A → ℕ
place_of f xs = place_from f 1 xs

-- what stands at place p, and d if there is no such place
unfoldable pub at_from : {A : Type 0} → A → ℕ → ℕ → List A → A
at_from d k p [] = d
at_from d k p (x ∷ xs) = cond (eqb k p) x (at_from d (suc k) p xs)

abbrev pub at : {A : Type 0} → A → ℕ → List A → A
at d p xs = at_from d 1 p xs

-- what stands at place p becomes what f makes of it
unfoldable pub change_from : {A : Type 0} → (A → A) → ℕ → ℕ → List A → List A
change_from f k p [] = []
change_from f k p (x ∷ xs) = cond (eqb k p) (f x) x ∷ change_from f (suc k) p xs

abbrev pub change_at : {A : Type 0} → ℕ → (A → A) → List A → List A
change_at p f xs = change_from f 1 p xs

-- x takes the lowest empty place
unfoldable pub put_lowest : {A : Type 0} → (A → Bool) → A → List A → List A
put_lowest empty x [] = []
put_lowest empty x (y ∷ ys) = cond (empty y) (x ∷ ys) (y ∷ put_lowest empty x ys)

-- the test passes at each place, of its number and what stands there
unfoldable pub each_from : {A : Type 0} → (ℕ → A → Bool) → ℕ → List A → Bool
each_from f k [] = true
each_from f k (x ∷ xs) = f k x && each_from f (suc k) xs

abbrev pub each_place : {A : Type 0} → (ℕ → A → Bool) → List A → Bool
each_place f xs = each_from f 1 xs

-- the numbers of the places that pass the test
unfoldable pub places_from : {A : Type 0} → (ℕ → A → Bool) → ℕ → List A → List ℕ
places_from f k [] = []
places_from f k (x ∷ xs) = cond (f k x) (k ∷ places_from f (suc k) xs) (places_from f (suc k) xs)

abbrev pub places_where : {A : Type 0} → (ℕ → A → Bool) → List A → List ℕ
places_where f xs = places_from f 1 xs
