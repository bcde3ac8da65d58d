-- The words that every other file uses: bytes, places and runs of a text.
-- A text is the list of its bytes, and a place a number of bytes from its start; each definition is total, also for places beyond the end.
-- Assumes nothing.
use Rattle.std.specs.Prelude.{Bool, true, false, ◌&&◌, List, [], ◌∷◌, ℕ, zero, suc, ◌+◌, leb, eqb, length, drop}
use Prim.Native.String.{String}
use Prim.Native.String
use Prim.Native.Char.{code}

infixr 5 when◌then◌else◌
unfoldable pub when◌then◌else◌ {ℓ} : {A : Type ℓ} → Bool → A → A → A
when true then a else b = a
when false then a else b = b

-- the bytes of a text in quotes
unfoldable pub ascii : String → List ℕ
ascii String.[] = []
ascii (String.◌∷◌ c s) = code c ∷ ascii s

-- from low to high, both included
unfoldable pub between : ℕ → ℕ → ℕ → Bool
between low high b = leb low b && leb b high

unfoldable pub all {ℓ} : {A : Type ℓ} → (A → Bool) → List A → Bool
all test [] = true
all test (x ∷ xs) = test x && all test xs

-- each of the n bytes from b on passes the test
unfoldable pub runs : (ℕ → Bool) → ℕ → ℕ → Bool
runs test b zero = true
runs test b (suc n) = test b && runs test (suc b) n

-- the same bytes
unfoldable pub same : List ℕ → List ℕ → Bool
same [] [] = true
same [] (b ∷ bs) = false
same (a ∷ more) [] = false
same (a ∷ more) (b ∷ bs) = eqb a b && same more bs

-- the place is the text's end, or beyond it
unfoldable pub ends : List ℕ → ℕ → Bool
ends text place = leb (length text) place

unfoldable pub starts : (ℕ → Bool) → List ℕ → Bool
starts test [] = false
starts test (b ∷ rest) = test b

-- at the place stands a byte that passes the test
unfoldable pub sees : (ℕ → Bool) → List ℕ → ℕ → Bool
sees test text place = starts test (drop place text)

-- how many bytes pass the test before the first that does not
unfoldable pub front : (ℕ → Bool) → List ℕ → ℕ
front test [] = 0
front test (b ∷ rest) = let more = suc (front test rest) in when test b then more else 0

-- the place after the bytes from here on that pass the test
unfoldable pub run : (ℕ → Bool) → List ℕ → ℕ → ℕ
run test text place = place + front test (drop place text)
