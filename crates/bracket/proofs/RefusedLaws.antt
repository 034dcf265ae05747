-- Laws of the bracket's refusals: which call is refused by which number, and which is answered.
use Rattle.std.specs.Prelude.{◌≡◌, Bool, true, false, cond, List, ℕ, ◌≤◌, ◌<◌, leb, length, Err, Ok}
use Rattle.std.proofs.Common.{ap, ◌∙◌, le-leb}
use Rattle.std.proofs.lemmas.Bool.{lt-leb}
use Rattle.rules.specs.Check.{within}
use Rattle.rules.specs.Bounds.{max_states}
use Rattle.rules.specs.Refusal.{bad_list_length, bad_state_count, bad_percent, bad_total}
use Rattle.runlength.specs.Scale.{min_horizon, max_horizon, units_per_one}
use Rattle.bracket.specs.Limits.{min_states, min_percent, max_percent}
use Rattle.runlength.specs.Chain.{cdf_of}
use Rattle.bracket.specs.Bracket.{percentile_bracket, bracket_of}

-- a number in its bounds, below them, above them
module _ (low high x : ℕ) where
  pub in_range : low ≤ x → x ≤ high → within low high x ≡ true
  in_range h k = ap (λ (b : Bool). cond b (leb x high) false) (le-leb low x h) ∙ le-leb x high k

  pub under_range : x < low → within low high x ≡ false
  under_range h = ap (λ (b : Bool). cond b (leb x high) false) (lt-leb low x h)

  pub over_range : low ≤ x → high < x → within low high x ≡ false
  over_range h k = ap (λ (b : Bool). cond b (leb x high) false) (le-leb low x h) ∙ lt-leb x high k

module _ (pmf : List ℕ) (count p : ℕ) where
  pub refused_length : within min_horizon max_horizon (length pmf) ≡ false → bracket_of pmf count p ≡ Err bad_list_length
  unfolding bracket_of
  refused_length e = rw e

  module _ (not_empty : min_horizon ≤ length pmf) (short : length pmf ≤ max_horizon) where
    length_in : within min_horizon max_horizon (length pmf) ≡ true
    length_in = in_range min_horizon max_horizon (length pmf) not_empty short

    pub refused_states : within min_states max_states count ≡ false → bracket_of pmf count p ≡ Err bad_state_count
    unfolding bracket_of
    refused_states e = rw (length_in, e)

    module _ (some_states : min_states ≤ count) (few_states : count ≤ max_states) where
      states_in : within min_states max_states count ≡ true
      states_in = in_range min_states max_states count some_states few_states

      pub refused_percent : within min_percent max_percent p ≡ false → bracket_of pmf count p ≡ Err bad_percent
      unfolding bracket_of
      refused_percent e = rw (length_in, states_in, e)

      module _ (some_percent : min_percent ≤ p) (part_percent : p ≤ max_percent) where
        percent_in : within min_percent max_percent p ≡ true
        percent_in = in_range min_percent max_percent p some_percent part_percent

        pub refused_total : leb (cdf_of pmf (length pmf)) units_per_one ≡ false → bracket_of pmf count p ≡ Err bad_total
        unfolding bracket_of
        refused_total e = rw (length_in, states_in, percent_in, e)

        -- no refusal applies
        pub answered : leb (cdf_of pmf (length pmf)) units_per_one ≡ true
            → bracket_of pmf count p ≡ Ok (percentile_bracket pmf count p)
        unfolding bracket_of
        answered e = rw (length_in, states_in, percent_in, e)
