-- What the loops of a round know after each turn. Laws.
use Rattle.std.specs.Prelude.{ℕ, zero, suc, ◌+◌, ◌*◌, ◌≤◌, ◌<◌, ◌≡◌, refl, Bool, true, false, List, [], ◌∷◌, map, eqb}
use Rattle.std.specs.List.{list_all, range_with_len}
use Rattle.std.proofs.Math.Path.{sym, ap}
use Rattle.std.proofs.Math.Bool.{and-true}
use Rattle.std.proofs.Common.{◌∙◌, arith, add-one, lt-ltb, le-ltb, eq-eqb, ne_eqb}
use Rattle.std.proofs.Math.Decide.{dec_lt}
use Rattle.std.proofs.lemmas.List.Folds.{list_all-append, list_all-map}
use Rattle.std.proofs.lemmas.List.FromFn.{map-range_with_len_more}
use Rattle.rules.specs.Bounds.{zone_count, max_states}
use Rattle.runlength.specs.Sum.{at}
use Rattle.runlength.proofs.LowestLaws.{lowest_found}
use Rattle.runlength.specs.Apart.{all_of}
use Rattle.runlength.proofs.ApartLaws.{all_fails}
use Rattle.merge.specs.Rounds.{label_of, agreeing, next_leader, Skips}

-- ---- a label

-- what a label is: for a state what the list says of it, for any other entry the signal's
pub label_state : (n : ℕ) (l : List ℕ) (x : ℕ) → x < n → at l x ≡ label_of n l x
label_state n l x h = rw (lt-ltb x n h)

pub label_signal : (n : ℕ) (l : List ℕ) (x : ℕ) → n ≤ x → max_states ≡ label_of n l x
label_signal n l x h = rw (le-ltb x n h)

-- ---- zone by zone

-- every number below n, by the library's test of a range
all_below : (f : ℕ → Bool) (n : ℕ) → list_all (λ t. t) (map f (range_with_len 0 n)) ≡ all_of n f
unfolding all_of
all_below f zero = refl
all_below f (suc n) =
    ap (λ k. list_all (λ t. t) (map f (range_with_len 0 k))) (sym (add-one n))
    ∙ ap (list_all (λ t. t)) (map-range_with_len_more f 0 n n (omega arith))
    ∙ list_all-append (λ t. t) (map f (range_with_len 0 n)) (f n ∷ [])
    ∙ rw (all_below f n, and-true (f n))

module _ (n : ℕ) (m l : List ℕ) (i j : ℕ) where
  -- whether a zone leads to the same label from both
  abbrev pub same_label : ℕ → Bool
  same_label z = eqb (label_of n l (at m (zone_count * i + z))) (label_of n l (at m (zone_count * j + z)))

  pub agree_is : list_all same_label (range_with_len 0 zone_count) ≡ agreeing n m l i j
  unfolding agreeing
  agree_is = sym (list_all-map (λ t. t) same_label (range_with_len 0 zone_count)) ∙ all_below same_label zone_count

  -- the first so many zones agree
  pub record AgreeTo (z : ℕ) : Type 0 where
    pub so_far : all_of z (λ z. eqb (label_of n l (at m (zone_count * i + z))) (label_of n l (at m (zone_count * j + z)))) ≡ true

  -- the loop over the zones: none so far, one more, one that differs, all
  pub agree_none : AgreeTo 0
  unfolding all_of
  agree_none = record { so_far = refl }

  module _ {z a b : ℕ} (p : AgreeTo z) (e : a ≡ label_of n l (at m (zone_count * i + z))) (f : b ≡ label_of n l (at m (zone_count * j + z))) where
    pub agree_more : a ≡ b → AgreeTo (z + 1)
    unfolding all_of
    agree_more q = record { so_far = rw (add-one z, p.so_far) (eq-eqb _ _ (sym e ∙ q ∙ f)) }

    pub agree_not : z < zone_count → (a ≡ b → ⊥) → false ≡ agreeing n m l i j
    unfolding agreeing
    agree_not h q = sym (all_fails zone_count _ z h (ne_eqb _ _ (λ d. q (e ∙ d ∙ sym f))))

  pub agree_all_lem : {z : ℕ} → AgreeTo z → z ≡ zone_count → true ≡ agreeing n m l i j
  unfolding agreeing
  agree_all_lem p e = sym (rw e at p.so_far)

-- ---- state by state

module _ (n : ℕ) (m l : List ℕ) (i : ℕ) where
  -- none of the states before j agrees with i
  pub record NoneBefore (j : ℕ) : Type 0 where
    pub most : j ≤ i
    pub none : (s : ℕ) → s < j → agreeing n m l s i ≡ false

  -- the loop over the states begins at the leader so far
  pub none_skipped : Skips n m l i → NoneBefore (at l i)
  none_skipped p = record { most = p.most; none = p.skip }

  module _ {j : ℕ} (p : NoneBefore j) where
    -- one state more does not agree
    pub none_more : j < i → false ≡ agreeing n m l j i → NoneBefore (j + 1)
    none_more h e = record { most = omega arith; none = λ s k. last s k (dec_lt s j) }
      where
        last : (s : ℕ) → s < j + 1 → Dec (s < j) → agreeing n m l s i ≡ false
        last s k (yes g) = p.none s g
        last s k (no g) = let d : s ≡ j = omega arith in rw d (sym e)

    pub leader_found : true ≡ agreeing n m l j i → j ≡ next_leader n m l i
    unfolding next_leader
    leader_found e = lowest_found (λ s. agreeing n m l s i) i j (record { most = p.most; hit = λ h. sym e; miss = p.none })

    pub leader_self : i ≤ j → i ≡ next_leader n m l i
    unfolding next_leader
    leader_self e =
        lowest_found (λ s. agreeing n m l s i) i i
        (record { most = omega arith; hit = λ h. absurd (omega arith); miss = λ s k. p.none s (omega arith) })
