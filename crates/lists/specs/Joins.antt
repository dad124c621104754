-- Lists that are joined without repeats.
use Rattle.std.specs.Prelude.{◌≡◌, ◌⊎◌, List, [], ◌∷◌, ◌++◌}
use Rattle.lists.specs.Places.{Holds}

-- zs is xs and then, in turn, each of ys that is not yet there
abbrev pub Joined : {A : Type 0} → List A → List A → List A → Type 0
Joined xs [] zs = zs ≡ xs
Joined xs (y ∷ ys) zs = (Holds xs y × Joined xs ys zs) ⊎ ((Holds xs y → ⊥) × Joined (xs ++ (y ∷ [])) ys zs)
