-- The rule of a mailbox: of each sender, what was taken and then what is queued is what its pass has posted. Nothing is said of the order between two senders.
use Rattle.std.specs.Prelude.{◌≡◌, ℕ, ◌+◌, ◌<◌, ◌≤◌, true, false, List, [], ◌∷◌, ◌++◌, length, filter, ◌==◌, slice_index_or}
use mathlib.Core.Option.{Option, some, none}
use lib.ListN.{get_elem?}
use Rattle.mailbox.specs.declared.rule.View.{View}

module _ {E : Type 0} where
  -- one more entry was posted, or taken
  abbrev pub with_entry : View E → E → View E
  with_entry v x = record v { entries = v.entries ++ x ∷ [] }

  -- more entries were taken
  abbrev pub more : View E → List E → View E
  more v xs = record v { entries = v.entries ++ xs }

  -- the taker that has opened no pass yet
  abbrev pub opening : View E
  opening = record { sends = false; takes = true; number = 0; entries = []; opened = 0; handed = [] }

  -- the taker, once it has opened one more pass
  abbrev pub opened_one : View E → View E
  opened_one v = record v { opened = v.opened + 1 }

  -- the pass that the taker opens next: its number is how many were opened before, and nothing was posted with it
  abbrev pub newcomer : View E → View E
  newcomer v = record { sends = true; takes = false; number = v.opened; entries = []; opened = 0; handed = [] }

  -- the taker, once it has taken in the pass of a sender
  abbrev pub handed_one : View E → View E → View E
  handed_one v w = record v { handed = v.handed ++ w.entries ∷ [] }

  -- a pass that was handed in
  abbrev pub spent : View E
  spent = record { sends = false; takes = false; number = 0; entries = []; opened = 0; handed = [] }

  -- a pass that may post knows what was posted under its number, and no other pass has that number
  pub record FitsSender (seat : ℕ → Option ℕ) (posted : ℕ → List E) (pass : ℕ) (v : View E) : Type 0 where
    pub seated : v.sends ≡ true → seat v.number ≡ some pass
    pub posts : v.sends ≡ true → v.entries ≡ posted v.number
    pub alone : v.sends ≡ true → v.takes ≡ true → ⊥

  -- the one pass that takes knows what was taken; a number from `opened` on has no pass and no entry, and one that was handed in has no pass and the entries that its pass had posted
  pub record FitsTaker (taker : ℕ) (seat : ℕ → Option ℕ) (posted : ℕ → List E) (taken : List E) (pass : ℕ) (v : View E) : Type 0 where
    pub only : v.takes ≡ true → pass ≡ taker
    pub takes : v.takes ≡ true → v.entries ≡ taken
    pub later : v.takes ≡ true → (p : ℕ) → v.opened ≤ p → (seat p ≡ none) × (posted p ≡ [])
    pub handed : v.takes ≡ true → (p : ℕ) → p < length v.handed → (seat p ≡ none) × (slice_index_or v.handed p [] ≡ posted p)
    pub few : v.takes ≡ true → length v.handed ≤ v.opened

  module _ (sender_of : E → ℕ) where
    -- the entries of one sender
    abbrev pub of : ℕ → List E → List E
    of p = filter (λ x. sender_of x == p)

    -- the rule, of what is queued, oldest first, and of what each pass knows: there are lists of what each number has posted and of what was taken that fit all passes
    pub record Kept (items : List E) (views : List (View E)) : Type 0 where
      pub taker : ℕ
      -- the pass that has a number, if one has
      pub seat : ℕ → Option ℕ
      pub posted : ℕ → List E
      pub taken : List E
      pub delivers : (p : ℕ) → of p (taken ++ items) ≡ posted p
      pub senders : (pass : ℕ) (v : View E) → get_elem? views pass ≡ some v → FitsSender seat posted pass v
      pub takers : (pass : ℕ) (v : View E) → get_elem? views pass ≡ some v → FitsTaker taker seat posted taken pass v

    -- a moment at which these entries were queued and a pass knew this much
    pub record Allowed (v : View E) (items : List E) : Type 0 where
      pub views : List (View E)
      pub pass : ℕ
      pub kept : Kept items views
      pub is : get_elem? views pass ≡ some v

    -- a taker to which all passes were handed in knows: of each number, what was taken and is queued is what was posted
    abbrev pub Settled : View E → List E → Type 0
    Settled v items = (p : ℕ) → of p (v.entries ++ items) ≡ slice_index_or v.handed p []
