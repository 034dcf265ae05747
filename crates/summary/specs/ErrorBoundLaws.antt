-- The size of the error bound: its products fit 64 bits. Working definition and laws.
use Rattle.std.specs.Prelude.{ℕ, ◌-◌, ◌*◌, ◌≤◌}
use Rattle.std.proofs.Common.{mul-le-mul, arith}
use Rattle.rules.specs.Bounds.{max_states}
use Rattle.runlength.specs.Scale.{max_horizon}
use Rattle.runlength.specs.Chain.{error_bound_of}

-- more than the error bound ever is
abbrev pub max_error_bound : ℕ
max_error_bound = max_states * max_horizon * max_horizon

module _ (n h : ℕ) (few : n ≤ max_states) (most : h ≤ max_horizon) where
  pub product_most : n * h ≤ max_states * max_horizon
  product_most = mul-le-mul {n₁ = n} {m₁ = h} {n₂ = max_states} {m₂ = max_horizon} few most

  pub products_most : n * h * (h - 1) ≤ max_error_bound
  products_most =
      mul-le-mul {n₁ = n * h} {m₁ = h - 1} {n₂ = max_states * max_horizon} {m₂ = max_horizon} product_most (omega arith)

  pub error_bound_most : error_bound_of n h ≤ max_error_bound
  error_bound_most = omega (arith, products_most)
