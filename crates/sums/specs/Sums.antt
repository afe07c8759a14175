-- The running sums of the nodes: what begins them, and what arrives in them. Definitions alone: their laws are in the module below.
pub mod Laws
use Rattle.std.specs.Prelude.{ℕ, ◌≤◌, ◌<◌, ◌≡◌, List, Bool, true, false, cond, ◌&&◌, ◌||◌, ltb, length, get_or}
use Rattle.graph.specs.Graph.{System, PerNode}
use Rattle.sums.specs.declared.Sums.{Sums}
use Rattle.flow.specs.Walk.{into, changes, Begun}

-- both are lent the same slices
abbrev pub SameSums : Sums → Sums → Type 0
SameSums x z = (z.ins.ghost_name ≡ x.ins.ghost_name) × (z.past.ghost_name ≡ x.past.ghost_name)

-- whether a set v that arrives changes the sum of node b. Sums that end before b have none, and `into` leaves them as they are.
abbrev pub alters : System → List ℕ → (b v : ℕ) → Bool
alters y s b v = ltb b (length s) && changes y s b v

-- a set v arrives in a sum of node b
pub record Merges (y : System) (s : List ℕ) (b v : ℕ) (s' : List ℕ) (r : Bool) : Type 0 where
  pub sums : s' ≡ into y s b v
  pub told : r ≡ alters y s b v

-- a set v arrives at node b, and counts there or not
pub record Delivers (y : System) (s q : List ℕ) (b v : ℕ) (counted : Bool) (s' q' : List ℕ) (r : Bool) : Type 0 where
  pub ins : s' ≡ into y s b v
  pub past : q' ≡ cond counted (into y q b v) q
  pub told : r ≡ alters y s b v || (counted && alters y q b v)

-- the slices have a place for each of n nodes
pub record Room (n : ℕ) (nodes : PerNode (List ℕ)) (s q : List ℕ) : Type 0 where
  pub ins_long : n ≤ length s
  pub past_long : n ≤ length q
  pub checks_long : n ≤ length nodes.checks
  pub entries_long : n ≤ length nodes.entries
  pub grants_long : n ≤ length nodes.grants

module _ (y : System) (k n : ℕ) (nodes : PerNode (List ℕ)) (s q : List ℕ) where
  -- the sums of the nodes below n begin, the rest is as it was
  pub record BegunAll (s' q' : List ℕ) : Type 0 where
    pub ins_long : length s' ≡ length s
    pub past_long : length q' ≡ length q
    pub first : Begun y k n nodes.checks nodes.entries nodes.grants s' q'
    pub ins_rest : (i : ℕ) → n ≤ i → get_or s' i 0 ≡ get_or s i 0
    pub past_rest : (i : ℕ) → n ≤ i → get_or q' i 0 ≡ get_or q i 0

  -- what the slices hold after it, and whether it was stored
  pub data Begins : Bool → (s' q' : List ℕ) → Type 0 where
    begun : {s' q' : List ℕ} → Room n nodes s q → BegunAll s' q' → Begins true s' q'
    kept : (Room n nodes s q → ⊥) → Begins false s q
