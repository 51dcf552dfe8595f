-- What is named in the text is mentioned in the typed tree: what this means of parts, of rows of parts, and of a node at its place.
use Rattle.std.proofs.Common.{◌≡◌, ◌||◌, ◌∷◌, ◌⊎◌}
use Rattle.program_laws.proofs.Common.{ℕ, true, List, [], Option, Some, None, false, sym, subst, true≢false, inl, inr, or_cases, or_left, or_right, Spot, Shape, roll-TypedExpr, TypedNode, Mention, mentions, Seen, Found, Sort, Gives, Judged, Root, Demand, Part, operated, given_by, judged, any_of, is_barred}
use Rattle.typed_program.specs.Mentions.{either}
use Rattle.expr_rules.specs.declared.placed.Gives.TheVariants as gives
use Rattle.expr_rules.specs.Places.{placed}
use Rattle.expr_rules.specs.Places.{stands as placed_stands}
use Rattle.expr_rules.specs.Then.{and_then, through}
use Rattle.stmt_check.specs.Captures.{Names as Naming}
use Rattle.program_laws.proofs.Exprs.Sure.{Sure, sure_then, sure_sound, sure_any}
use Rattle.program_laws.proofs.Lawful.Mentioning.{node_said, said_made}
use Rattle.program_laws.proofs.Exprs.Inductions.{Each}

-- a name that is mentioned, and isn't barred
pub record Hit (s : Seen) (mention : Mention) : Type 0 where
  pub mentioned : mention s.number ≡ true
  pub free : is_barred s ≡ false

-- the same mention, otherwise written
pub hit_as : (s : Seen) (one other : Mention) → one ≡ other → Hit s one → Hit s other
hit_as s one other is h = subst (λ (m : Mention). Hit s m) is h

-- ---- rows of parts

module _ {B C : Type 0} (name : List ℕ) (Says : Naming → B → Type 0) (I : C → Type 0) (H : C → Type 0) (step : C → B → Found C) where
  -- what is kept along a row, and what is mentioned once it is mentioned
  abbrev pub Keeps : Type 0
  Keeps = (c : C) (n : Naming) (b : B) → Says n b → I c → Sure (λ d. I d × (H c → H d)) (step c b)

  -- what is named in a part is mentioned behind it
  abbrev pub Hits : Type 0
  Hits = (c : C) (n : Naming) (b : B) → Says n b → I c → n name ≡ true → Sure (λ d. I d × H d) (step c b)

  -- what is mentioned before a row is mentioned behind it
  pub row_keeps : Keeps → (c : C) (ns : List Naming) (bs : List B) → Each Says ns bs → I c → H c → Sure (λ d. I d × H d) (through step c bs)
  unfolding through
  row_keeps keep c [] [] each i h = sure_sound (λ d. I d × H d) c (i, h)
  row_keeps keep c [] (b ∷ bs) each i h = absurd each
  row_keeps keep c (n ∷ ns) [] each i h = absurd each
  row_keeps keep c (n ∷ ns) (b ∷ bs) each i h = sure_then (λ d. I d × (H c → H d)) (λ d. I d × H d) (step c b) (λ d. through step d bs) (keep c n b each.0 i) (λ d k. row_keeps keep d ns bs each.1 k.0 (k.1 h))

  one_or_rest : Keeps → Hits → (c : C) (n : Naming) (ns : List Naming) (b : B) (bs : List B) → Says n b → Each Says ns bs → I c → ((d : C) → I d → any_of ns name ≡ true → Sure (λ e. I e × H e) (through step d bs)) → (n name ≡ true) ⊎ (any_of ns name ≡ true) → Sure (λ d. I d × H d) (and_then (step c b) (λ d. through step d bs))
  one_or_rest keep hit c n ns b bs one each i rest (inl h) = sure_then (λ d. I d × H d) (λ d. I d × H d) (step c b) (λ d. through step d bs) (hit c n b one i h) (λ d k. row_keeps keep d ns bs each k.0 k.1)
  one_or_rest keep hit c n ns b bs one each i rest (inr h) = sure_then (λ d. I d × (H c → H d)) (λ d. I d × H d) (step c b) (λ d. through step d bs) (keep c n b one i) (λ d k. rest d k.0 h)

  -- what is named in a row is mentioned behind it
  pub row_hits : Keeps → Hits → (c : C) (ns : List Naming) (bs : List B) → Each Says ns bs → I c → any_of ns name ≡ true → Sure (λ d. I d × H d) (through step c bs)
  unfolding through
  row_hits keep hit c [] [] each i is = absurd (true≢false (sym is))
  row_hits keep hit c [] (b ∷ bs) each i is = absurd each
  row_hits keep hit c (n ∷ ns) [] each i is = absurd each
  row_hits keep hit c (n ∷ ns) (b ∷ bs) each i is = one_or_rest keep hit c n ns b bs each.0 each.1 i (λ d j h. row_hits keep hit d ns bs each.1 j h) (or_cases (n name) (any_of ns name) is)

  -- behind a first part that mentions it, or not
  pub row_says : Keeps → Hits → (c : C) (ns : List Naming) (bs : List B) → Each Says ns bs → I c → (H c) ⊎ (any_of ns name ≡ true) → Sure (λ d. I d × H d) (through step c bs)
  row_says keep hit c ns bs each i (inl h) = row_keeps keep c ns bs each i h
  row_says keep hit c ns bs each i (inr h) = row_hits keep hit c ns bs each i h

-- ---- parts

module _ (name : List ℕ) (s : Seen) where
  abbrev pub Mentions : Judged → Type 0
  Mentions j = Hit s (mentions j.typed)

  -- a part that mentions the name, where it names it
  pub record PartSays (n : Naming) (part : Part) : Type 0 where
    pub at_demand : n name ≡ true → (demand : Demand) → Sure Mentions (part demand)

  -- a node at its place
  pub stands_says : (spot : Spot) (demand : Demand) (own : Option ℕ) (root : Option Root) (g : Gives) (n : TypedNode) → Hit s (node_said n) → Sure Mentions (placed_stands spot demand own root g n)
  stands_says spot demand own root g n h =
      sure_then (λ (o : Option Shape). Unit {0}) Mentions (placed spot demand own root g) (judged root n) (sure_any (placed spot demand own root g))
      (λ o u. sure_sound Mentions (record { typed = roll-TypedExpr record { shape = o; node = n }; root = root; signed = false }) (hit_as s (node_said n) (mentions (roll-TypedExpr record { shape = o; node = n })) (sym (said_made o n)) h))

  -- an operator at its place
  pub operated_says : (spot : Spot) (demand : Demand) (o : Option Sort) (n : TypedNode) → Hit s (node_said n) → Sure Mentions (operated spot demand o n)
  operated_says spot demand None n h = stands_says spot demand (Some 10) None gives.Unknown n h
  operated_says spot demand (Some t) n h = stands_says spot demand None None (given_by t) n h

  -- a first part and what is made of it, where one or the other names it
  pub first_says : {A : Type 0} (P : A → Type 0) (n more : Naming) (part : Part) (demand : Demand) (made : Judged → Found A) → PartSays n part → ((j : Judged) → (Mentions j) ⊎ (more name ≡ true) → Sure P (made j)) → (n name || more name) ≡ true → Sure P (and_then (part demand) made)
  first_says P n more part demand made p next is = either_way (or_cases (n name) (more name) is)
    where
      either_way : (n name ≡ true) ⊎ (more name ≡ true) → Sure P (and_then (part demand) made)
      either_way (inl h) = sure_then Mentions P (part demand) made (p.at_demand h demand) (λ j m. next j (inl m))
      either_way (inr h) = sure_then (λ j. Unit {0}) P (part demand) made (sure_any (part demand)) (λ j u. next j (inr h))

-- ---- mentions of a whole

-- what mentions more
pub hit_grows : (s : Seen) (one other : Mention) → (one s.number ≡ true → other s.number ≡ true) → Hit s one → Hit s other
hit_grows s one other grow h = record { mentioned = grow h.mentioned; free = h.free }

-- the first of two
pub hit_first : (s : Seen) (one other : Mention) → Hit s one → Hit s (either one other)
hit_first s one other h = record { mentioned = or_left (one s.number) (other s.number) h.mentioned; free = h.free }

-- the second of two
pub hit_second : (s : Seen) (one other : Mention) → Hit s other → Hit s (either one other)
hit_second s one other h = record { mentioned = or_right (one s.number) (other s.number) h.mentioned; free = h.free }
