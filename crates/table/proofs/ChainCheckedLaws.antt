-- The checks of a chain, by what they answered. Laws.
use Rattle.std.specs.Prelude.{◌≡◌, List, ℕ, Err, Ok, Result}
use Rattle.rules.specs.declared.RuleList.{RuleList}
use Rattle.rules.specs.declared.refusal.Refusal.{Refusal}
use Rattle.rules.specs.Check.{active_rules}
use Rattle.table.specs.Table.{chain_check}
use Rattle.table.specs.ChainChecked.{ChainChecked}
use Rattle.chain.specs.HeldMoves.{HoldsMoves}

module _ (l : RuleList) (w : List ℕ) (h : ℕ) (m : List ℕ) {a : Result ℕ Refusal} where
  pub refused_chain : {x : Refusal} → a ≡ Err x → ChainChecked l w h m a → chain_check l w h ≡ Err x
  refused_chain e c = rw e at c

  module _ {n : ℕ} (e : a ≡ Ok n) (c : ChainChecked l w h m a) where
    pub passed_chain : chain_check l w h ≡ Ok tt
    passed_chain = let d = rw e at c in d.0

    pub held_moves : HoldsMoves (active_rules l) n m
    held_moves = let d = rw e at c in d.1
