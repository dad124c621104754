-- What holds of every bounded list: laws for the proofs of other crates.
use Rattle.std.proofs.Common.{◌≡◌, ℕ, ◌+◌, ◌≤◌, List, ◌++◌, length, drop, refl, sym, ap, ◌∙◌, subst, arith, take-append-drop, length-append, length-take-le}
use Rattle.std.proofs.Math.Bridge.{le_prop}
use Rattle.std.proofs.Math.Nat.{ℕ_set}
use Rattle.std.proofs.Math.Seq.{take-append_seam}
use Rattle.bounded.specs.Bounded.{items, places}
use Rattle.bounded.specs.declared.Bounded.{Bounded}

module _ {T : Type 0} {N : ℕ} where
  list : (ps : List T) (n : ℕ) → n ≤ N → length ps ≡ N → Bounded T N
  list ps n f w = record { places = ps; len = n; few = f; wide = w }

  -- which proofs a list carries makes no difference
  proofs : (ps : List T) (n : ℕ) (f g : n ≤ N) (w v : length ps ≡ N) → list ps n f w ≡ list ps n g v
  proofs ps n f g w v = ap (λ h. list ps n h w) (le_prop f g) ∙ ap (list ps n g) (ℕ_set _ _ w v)

  -- so lists with equal fields are equal
  fields : (ps qs : List T) (n m : ℕ) → ps ≡ qs → n ≡ m → (f : n ≤ N) (g : m ≤ N) (w : length ps ≡ N) (v : length qs ≡ N) → list ps n f w ≡ list qs m g v
  fields ps qs n m p e = subst (λ rs. (f : n ≤ N) (g : m ≤ N) (w : length ps ≡ N) (v : length rs ≡ N) → list ps n f w ≡ list rs m g v) p (λ f g w v. subst (λ k. (h : k ≤ N) → list ps n f w ≡ list ps k h v) e (λ h. proofs ps n f h w v) g)

  -- the count is the number of elements
  long : (b : Bounded T N) → length (items b) ≡ b.len
  unfolding items
  long b = length-take-le b.len b.places (omega (arith, b.few, b.wide))

  -- no more than N elements
  pub at_most : (b : Bounded T N) → length (items b) ≤ N
  at_most b = omega (arith, long b, b.few)

  -- N places
  pub all_places : (b : Bounded T N) → length (places b) ≡ N
  unfolding places
  all_places b = b.wide

  -- the elements come first
  pub items_first : (b : Bounded T N) → items b ++ drop (length (items b)) (places b) ≡ places b
  unfolding items places
  items_first b = subst (λ n. items b ++ drop n b.places ≡ b.places) (sym (long b)) (take-append-drop b.len b.places)

  -- a list is its elements and what lies behind them
  pub same : (a b : Bounded T N) → items a ≡ items b → drop (length (items a)) (places a) ≡ drop (length (items b)) (places b) → a ≡ b
  unfolding places list
  same a b i d =
      let len : a.len ≡ b.len = sym (long a) ∙ ap length i ∙ long b in
      let all : a.places ≡ b.places = sym (items_first a) ∙ ap (λ xs. xs ++ drop (length (items a)) (places a)) i ∙ ap (λ ys. items b ++ ys) d ∙ items_first b in
      fields a.places b.places a.len b.len all len a.few b.few a.wide b.wide

  -- any elements and any rest, N together, make a list
  pub made : (xs ys : List T) → length xs + length ys ≡ N → (b : Bounded T N) × (items b ≡ xs) × (places b ≡ xs ++ ys)
  unfolding items places list
  made xs ys e = (list (xs ++ ys) (length xs) (omega (arith, e)) (length-append xs ys ∙ e), take-append_seam xs ys, refl)
