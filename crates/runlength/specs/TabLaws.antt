-- Laws of lists that are given by a function of the index, and of a loop that writes one from the front.
use Rattle.std.specs.Prelude.{◌≡◌, refl, List, [], ◌∷◌, ◌++◌, ℕ, zero, suc, ◌+◌, ◌≤◌, ◌<◌, length, get_or, set, drop}
use Rattle.std.proofs.Common.{sym, ◌∙◌, arith, add-one, length-append, length-drop, drop-cons, ext_get_or}
use Rattle.std.proofs.Math.Decide.{dec_lt}
use Rattle.std.proofs.Math.ListN.{get_or-append}
use Rattle.std.proofs.lemmas.List.{set_at, get_or_at}
use Rattle.std.proofs.Math.Seq.{append_snoc}
use Rattle.runlength.specs.Sum.{tab, front}

pub length_tab : (n : ℕ) (f : ℕ → ℕ) → length (tab n f) ≡ n
unfolding tab
length_tab zero f = refl
length_tab (suc n) f = omega (arith, length-append (tab n f) (f n ∷ []), length_tab n f)

pub get_d_tab : (n : ℕ) (f : ℕ → ℕ) (i : ℕ) → i < n → get_or (tab n f) i 0 ≡ f i
unfolding tab
get_d_tab zero f i h = absurd (omega arith)
get_d_tab (suc n) f i h = go (dec_lt i n) (get_d_tab n f i)
  where
    go : Dec (i < n) → (i < n → get_or (tab n f) i 0 ≡ f i) → get_or (tab n f ++ (f n ∷ [])) i 0 ≡ f i
    go (yes l) r = get_or-append (tab n f) (f n ∷ []) 0 i (omega (arith, length_tab n f)) ∙ r l
    go (no l) r = let e : i ≡ n = omega arith in rw e (get_or_at (tab n f) (f n) [] 0 n (length_tab n f))

pub tab_cong : (n : ℕ) (f g : ℕ → ℕ) → ((i : ℕ) → i < n → f i ≡ g i) → tab n f ≡ tab n g
tab_cong n f g e =
    ext_get_or 0 (tab n f) (tab n g) (length_tab n f ∙ sym (length_tab n g))
    (λ i h. let l : i < n = omega (arith, length_tab n f) in get_d_tab n f i l ∙ e i l ∙ sym (get_d_tab n g i l))

pub front_none : (f : ℕ → ℕ) (d : List ℕ) → d ≡ front 0 f d
unfolding tab front
front_none f d = refl

-- a list keeps its length, and holds what was written
pub front_length : (h : ℕ) (f : ℕ → ℕ) (d : List ℕ) → h ≤ length d → length (front h f d) ≡ length d
unfolding front
front_length h f d i = omega (arith, length-append (tab h f) (drop h d), length_tab h f, length-drop h d)

pub front_at : (h : ℕ) (f : ℕ → ℕ) (d : List ℕ) (k : ℕ) → k < h → get_or (front h f d) k 0 ≡ f k
unfolding front
front_at h f d k i = get_or-append (tab h f) (drop h d) 0 k (omega (arith, length_tab h f)) ∙ get_d_tab h f k i

-- one place more is written
pub front_more : (n : ℕ) (f : ℕ → ℕ) (d e : List ℕ) (v : ℕ) → n < length d → e ≡ front n f d → v ≡ f n → set e n v ≡ front (n + 1) f d
unfolding tab front
front_more n f d e v h p q =
    rw (p, q, drop-cons d n 0, add-one)
    (set_at (tab n f) (get_or d n 0) (drop (suc n) d) (f n) n (length_tab n f) ∙ sym (append_snoc (tab n f) (f n) (drop (suc n) d)))
