-- What a typed expression mentions, by its node; and what is mentioned in a row that grows.
use Rattle.std.proofs.Common.{◌≡◌, ◌||◌, ◌∷◌, ◌++◌}
use Rattle.program_laws.proofs.Common.{ℕ, Bool, true, false, List, [], map, Option, refl, sym, ap, ◌∙◌, list_any, or_left, or_right, Shape, Operator, TypedExpr, out-TypedExpr, roll-TypedExpr, fold-roll-TypedExpr, fold_out-TypedExpr, TypedNode, TypedNode-F, map-TypedNode, roll-TypedNode, fold-TypedNode, fold-roll-TypedNode, TypedEntry, roll-TypedEntry, fold-TypedEntry, fold-roll-TypedEntry, TypedLink, roll-TypedLink, fold-TypedLink, fold-roll-TypedLink, TypedSuffix, roll-TypedSuffix, fold-roll-TypedSuffix, TypedSuffixNode, TypedSuffixNode-F, map-TypedSuffixNode, roll-TypedSuffixNode, fold-TypedSuffixNode, fold-roll-TypedSuffixNode, Mention, mentions}
use Rattle.typed_program.specs.declared.expression.TypedSuffix.{fold-TypedSuffix}
use Rattle.typed_program.specs.Mentions.{either, node_mentions, step_mentions, entry_mentions, expr_mentions, link_mentions, suffix_mentions}

-- what a node mentions
pub node_said : TypedNode → Mention
node_said = fold-TypedNode Mention Mention Mention Mention Mention Mention node_mentions step_mentions entry_mentions expr_mentions link_mentions suffix_mentions

-- what a step mentions
pub step_said : TypedSuffixNode → Mention
step_said = fold-TypedSuffixNode Mention Mention Mention Mention Mention Mention node_mentions step_mentions entry_mentions expr_mentions link_mentions suffix_mentions

abbrev pub entry_said : TypedEntry → Mention
entry_said = fold-TypedEntry Mention Mention Mention Mention Mention Mention node_mentions step_mentions entry_mentions expr_mentions link_mentions suffix_mentions

abbrev pub link_said : TypedLink → Mention
link_said = fold-TypedLink Mention Mention Mention Mention Mention Mention node_mentions step_mentions entry_mentions expr_mentions link_mentions suffix_mentions

abbrev pub suffix_said : TypedSuffix → Mention
suffix_said = fold-TypedSuffix Mention Mention Mention Mention Mention Mention node_mentions step_mentions entry_mentions expr_mentions link_mentions suffix_mentions

-- a node, and a step, by its layer
abbrev pub node_layer : TypedNode-F TypedNode TypedSuffixNode TypedEntry TypedExpr TypedLink TypedSuffix → Mention
node_layer d = node_mentions (map-TypedNode TypedNode TypedSuffixNode TypedEntry TypedExpr TypedLink TypedSuffix Mention Mention Mention Mention Mention Mention node_said step_said entry_said mentions link_said suffix_said d)

abbrev pub step_layer : TypedSuffixNode-F TypedNode TypedSuffixNode TypedEntry TypedExpr TypedLink TypedSuffix → Mention
step_layer d = step_mentions (map-TypedSuffixNode TypedNode TypedSuffixNode TypedEntry TypedExpr TypedLink TypedSuffix Mention Mention Mention Mention Mention Mention node_said step_said entry_said mentions link_said suffix_said d)

-- a node mentions what its layer does
pub said : (d : TypedNode-F TypedNode TypedSuffixNode TypedEntry TypedExpr TypedLink TypedSuffix) (n : TypedNode) → roll-TypedNode d ≡ n → node_said n ≡ node_layer d
unfolding node_said step_said
said d n is = ap node_said (sym is) ∙ fold-roll-TypedNode Mention Mention Mention Mention Mention Mention node_mentions step_mentions entry_mentions expr_mentions link_mentions suffix_mentions d

-- a step mentions what its layer does
pub stepped : (d : TypedSuffixNode-F TypedNode TypedSuffixNode TypedEntry TypedExpr TypedLink TypedSuffix) (n : TypedSuffixNode) → roll-TypedSuffixNode d ≡ n → step_said n ≡ step_layer d
unfolding node_said step_said
stepped d n is = ap step_said (sym is) ∙ fold-roll-TypedSuffixNode Mention Mention Mention Mention Mention Mention node_mentions step_mentions entry_mentions expr_mentions link_mentions suffix_mentions d

-- an expression that is made mentions what its node does
pub said_made : (s : Option Shape) (n : TypedNode) → mentions (roll-TypedExpr record { shape = s; node = n }) ≡ node_said n
unfolding node_said
said_made s n = fold-roll-TypedExpr Mention Mention Mention Mention Mention Mention node_mentions step_mentions entry_mentions expr_mentions link_mentions suffix_mentions (record { shape = s; node = n })

-- and so does any expression
pub said_out : (e : TypedExpr) → mentions e ≡ node_said (out-TypedExpr e).node
unfolding node_said
said_out e = fold_out-TypedExpr Mention Mention Mention Mention Mention Mention node_mentions step_mentions entry_mentions expr_mentions link_mentions suffix_mentions e

-- a link mentions what its operand does
pub link_made : (o : Operator) (e : TypedExpr) → link_said (roll-TypedLink record { operator = o; operand = e }) ≡ mentions e
link_made o e = fold-roll-TypedLink Mention Mention Mention Mention Mention Mention node_mentions step_mentions entry_mentions expr_mentions link_mentions suffix_mentions (record { operator = o; operand = e })

-- an entry mentions what its key and its value do
pub entry_made : (key value : TypedExpr) → entry_said (roll-TypedEntry record { key = key; value = value }) ≡ either (mentions key) (mentions value)
entry_made key value = fold-roll-TypedEntry Mention Mention Mention Mention Mention Mention node_mentions step_mentions entry_mentions expr_mentions link_mentions suffix_mentions (record { key = key; value = value })

-- a suffix mentions what its step does
pub suffix_made : (s : Option Shape) (n : TypedSuffixNode) → suffix_said (roll-TypedSuffix record { shape = s; node = n }) ≡ step_said n
unfolding step_said
suffix_made s n = fold-roll-TypedSuffix Mention Mention Mention Mention Mention Mention node_mentions step_mentions entry_mentions expr_mentions link_mentions suffix_mentions (record { shape = s; node = n })

-- ---- rows that grow

-- the second of two grows
pub second_grows : (a b c : Bool) → (b ≡ true → c ≡ true) → (a || b) ≡ true → (a || c) ≡ true
second_grows true b c h k = refl
second_grows false b c h k = h k

abbrev pub in_row : {A : Type 0} → (A → Mention) → List A → ℕ → Bool
in_row f xs n = list_any (λ p. p n) (map f xs)

-- what is mentioned in a row is mentioned in a longer one
pub row_grows : {A : Type 0} (f : A → Mention) (xs : List A) (x : A) (n : ℕ) → in_row f xs n ≡ true → in_row f (xs ++ x ∷ []) n ≡ true
row_grows f [] x n h = absurd (cc)
row_grows f (y ∷ xs) x n h = second_grows (f y n) (in_row f xs n) (in_row f (xs ++ x ∷ []) n) (row_grows f xs x n) h

-- what its last item mentions is mentioned in a row
pub row_hits : {A : Type 0} (f : A → Mention) (xs : List A) (x : A) (n : ℕ) → f x n ≡ true → in_row f (xs ++ x ∷ []) n ≡ true
row_hits f [] x n h = or_left (f x n) false h
row_hits f (y ∷ xs) x n h = or_right (f y n) (in_row f (xs ++ x ∷ []) n) (row_hits f xs x n h)
