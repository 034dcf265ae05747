-- What a chain and a table call that are accepted have: all that the layers above may use. Working definitions.
use Rattle.std.specs.Prelude.{◌≡◌, List, ℕ, suc, ◌≤◌, ◌<◌, length, Ok}
use Rattle.rules.specs.declared.RuleList.{RuleList}
use Rattle.rules.specs.Bounds.{zone_count, max_states}
use Rattle.rules.specs.Check.{active_rules, check_of}
use Rattle.rules.specs.InBounds.{AllInBounds}
use Rattle.runlength.specs.Scale.{min_horizon, max_horizon, weight_total, units_per_one}
use Rattle.runlength.specs.Sum.{at, sum, front}
use Rattle.runlength.specs.Chain.{Proper, pmf, cdf, survival, restricted_mean, cdf_of}
use Rattle.table.specs.declared.TableFigures.{TableFigures}
use Rattle.chain.specs.TableChain.{explored_count, state_count}
use Rattle.table.specs.Table.{TableCall, rules_of, chain_of, table_of, pmf_of, mean_of}

-- the rules, the weights, the horizon and the states explored are in bounds
pub record AcceptedChain (l : RuleList) (w : List ℕ) (h : ℕ) : Type 0 where
  pub rules : check_of l ≡ Ok tt
  pub bounds : AllInBounds (active_rules l)
  pub weights : sum zone_count (at w) ≡ weight_total
  pub some_horizon : min_horizon ≤ h
  pub most_horizon : h ≤ max_horizon
  pub few : explored_count (active_rules l) ≤ max_states

-- the call was accepted with the figures f
pub record AcceptedTable (t : TableCall) (f : TableFigures) : Type 0 where
  pub chain : AcceptedChain t.list t.weights t.horizon
  pub proper : Proper (chain_of t)
  -- N
  pub count_is : f.state_count ≡ state_count (rules_of t)
  pub some_states : 1 ≤ f.state_count
  pub few_states : f.state_count ≤ max_states
  -- left at the horizon, and the mean, which is at most the horizon
  pub survival_is : f.survival ≡ survival (chain_of t) t.horizon
  pub mean_is : mean_of f ≡ restricted_mean (chain_of t) t.horizon
  pub mean_most : f.mean_whole ≤ max_horizon
  pub mean_part : f.mean_fraction < units_per_one
  -- the chances and what is left for n = 1 to the horizon, and the lists' lengths kept
  pub pmf_list_lem : (table_of t).pmf_list ≡ front t.horizon (λ k. pmf (chain_of t) (suc k)) t.pmf_before
  pub survival_list_lem : (table_of t).survival_list ≡ front t.horizon (λ k. survival (chain_of t) (suc k)) t.survival_before
  pub pmf_room : t.horizon ≤ length (table_of t).pmf_list
  pub survival_room : t.horizon ≤ length (table_of t).survival_list
  -- exactly the chances as written: so many, with the chain's running sums, as the whole list has; at most probability one
  pub pmf_length : length (pmf_of t) ≡ t.horizon
  pub pmf_cdf : (n : ℕ) → n ≤ t.horizon → cdf_of (pmf_of t) n ≡ cdf (chain_of t) n
  pub list_cdf : (n : ℕ) → n ≤ t.horizon → cdf_of (table_of t).pmf_list n ≡ cdf (chain_of t) n
  pub pmf_at : (k : ℕ) → k < t.horizon → at (table_of t).pmf_list k ≡ pmf (chain_of t) (suc k)
  pub survival_at : (k : ℕ) → k < t.horizon → at (table_of t).survival_list k ≡ survival (chain_of t) (suc k)
  pub total : cdf (chain_of t) t.horizon ≤ units_per_one
