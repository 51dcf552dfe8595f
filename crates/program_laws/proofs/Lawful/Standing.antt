-- What is known of a path at its place, where no fault is found there: what the place permits, that it is near where it is
-- changed, and that it may be assigned where it is.
use Rattle.std.proofs.Common.{◌≡◌, ◌&&◌, ◌||◌, ◌∷◌, ◌++◌, if◌then◌else◌}
use Rattle.program_laws.proofs.Common.{ℕ, Bool, true, false, not, [], Option, Some, None, nat_le, refl, sym, ap, subst, ◌∙◌, Spot, Shape, out-TypedExpr, roll-TypedExpr, TypedNode, Sight, Path, is_reference_of, value, argument, path_of, Paths, Gives, Root, Judged, Demand, key_codes, misfit_codes, path_codes, given_codes, place_codes, change_code, astray_code, shape_given, judged, codes_of, SameRoot, permitted}
use Rattle.typed_program.specs.Shapes.{is_reference}
use Rattle.typed_program.specs.Paths.{Root as Begins, plain}
use Rattle.expr_rules.specs.declared.asked.Paths.TheVariants as paths
use Rattle.expr_rules.specs.declared.placed.Gives.TheVariants as gives
use Rattle.expr_rules.specs.Places.{may_stand, placed}
use Rattle.expr_rules.specs.Places.{stands as placed_stands}
use Rattle.program_laws.proofs.Exprs.Sure.{Sure, own_none, sure_sound, sure_node, sure_then}
use Rattle.program_laws.proofs.Lawful.Paths.{node_pathed, path_made, node_shape}
use Rattle.program_laws.proofs.Shapes.Lists.{no_both}

-- at most 64 index steps away
abbrev pub is_near : Option Begins → Bool
is_near None = true
is_near (Some begins) = nat_le begins.steps 64

-- a path of reference type stands where one may
abbrev pub may_refer : Paths → Option Root → Option Shape → Bool
may_refer permitted root s = may_stand permitted root || not (is_reference_of s)

-- a path at its place
pub record Keeps (demand : Demand) (root : Option Root) (p : Path) : Type 0 where
  pub lawful : p.lawful ≡ true
  pub same : SameRoot root p.root
  pub refers : may_refer demand.paths root p.shape ≡ true
  pub near : demand.changed ≡ true → is_near p.root ≡ true
  pub freed : change_code demand.assigned root ≡ None

not_either : (a b : Bool) → (not a || not b) ≡ true → not (a && b) ≡ true
not_either true true h = h
not_either true false h = refl
not_either false b h = refl

argument_kept : (root : Option Root) (begins : Option Begins) (s : Option Shape) → SameRoot root begins → may_refer paths.NotOfGlobals root s ≡ true → argument (record { shape = s; root = begins; lawful = true }) ≡ true
argument_kept None None s same h = refl
argument_kept None (Some begins) s same h = absurd same
argument_kept (Some root) None s same h = absurd same
argument_kept (Some root) (Some begins) s same h = not_either begins.global (is_reference_of s) (ap (λ (g : Bool). not g || not (is_reference_of s)) same.1 ∙ h)

plain_kept : (root : Option Root) (begins : Option Begins) (s : Option Shape) → SameRoot root begins → may_refer paths.Refused root s ≡ true → plain (record { shape = s; root = begins; lawful = true }) ≡ true
plain_kept None None s same h = refl
plain_kept None (Some begins) s same h = absurd same
plain_kept (Some root) None s same h = absurd same
plain_kept (Some root) (Some begins) s same h = h

permitted_at : (ps : Paths) (root : Option Root) (begins : Option Begins) (s : Option Shape) → SameRoot root begins → may_refer ps root s ≡ true → permitted ps (record { shape = s; root = begins; lawful = true }) ≡ true
permitted_at paths.Free root begins s same h = refl
permitted_at paths.NotOfGlobals root begins s same h = argument_kept root begins s same h
permitted_at paths.Refused root begins s same h = plain_kept root begins s same h

-- what a place permits
pub permits : (demand : Demand) (root : Option Root) (p : Path) → Keeps demand root p → permitted demand.paths p ≡ true
permits demand root p k =
    ap (λ (b : Bool). permitted demand.paths (record { shape = p.shape; root = p.root; lawful = b })) k.lawful
    ∙ permitted_at demand.paths root p.root p.shape k.same k.refers

-- ---- the codes of a place

path_clear : (b r : Bool) (code : ℕ) → (if b then [] else (if r then code ∷ [] else [])) ≡ [] → (b || not r) ≡ true
path_clear true r code h = refl
path_clear false true code h = absurd (cc)
path_clear false false code h = refl

any_refers : (b : Bool) → (b || true) ≡ true
any_refers true = refl
any_refers false = refl

given_refers : (demand : Demand) (root : Option Root) (g : Gives) → given_codes demand root g ≡ [] → may_refer demand.paths root (shape_given g) ≡ true
given_refers demand root gives.Nothing h = any_refers (may_stand demand.paths root)
given_refers demand root gives.Unknown h = any_refers (may_stand demand.paths root)
given_refers demand root (gives.Value s) h =
    path_clear (may_stand demand.paths root) (is_reference s) 13 (no_both (key_codes demand.wish s ++ misfit_codes demand.wish s) (path_codes demand.paths root s) h).1

-- what is known where a node stands at its place
pub record Placed (demand : Demand) (root : Option Root) (s : Option Shape) : Type 0 where
  pub refers : may_refer demand.paths root s ≡ true
  pub freed : change_code demand.assigned root ≡ None

-- what holds at a place where no fault is found
pub placed_kept : (P : Option Shape → Type 0) (spot : Spot) (demand : Demand) (own : Option ℕ) (root : Option Root) (g : Gives) → (own ≡ None → Placed demand root (shape_given g) → P (shape_given g)) → Sure P (placed spot demand own root g)
unfolding placed
placed_kept P spot demand own root g h =
    sure_node P spot (codes_of own ++ place_codes demand root g) (shape_given g) (λ none.
    let a = no_both (codes_of own) (place_codes demand root g) none in
    let b = no_both (codes_of (change_code demand.assigned root)) (codes_of (astray_code demand.astray) ++ given_codes demand root g) a.1 in
    let c = no_both (codes_of (astray_code demand.astray)) (given_codes demand root g) b.1 in
    h (own_none own a.0) (record { refers = given_refers demand root g c.1; freed = own_none (change_code demand.assigned root) b.0 }))

module _ (sight : Sight) where
  -- an expression at its place; a literal behind a minus has no path
  pub record Standing (demand : Demand) (j : Judged) : Type 0 where
    pub keeps : Keeps demand j.root (path_of sight j.typed)
    pub signed : j.signed ≡ true → (s : Option Shape) → node_pathed sight (out-TypedExpr j.typed).node s ≡ value s true

  -- what a node is, whose own codes are none
  pub record Own (demand : Demand) (root : Option Root) (n : TypedNode) (s : Option Shape) : Type 0 where
    pub lawful : (node_pathed sight n s).lawful ≡ true
    pub same : SameRoot root (node_pathed sight n s).root
    pub near : demand.changed ≡ true → is_near (node_pathed sight n s).root ≡ true

  -- a node keeps the rules at its place
  pub node_keeps : (demand : Demand) (root : Option Root) (n : TypedNode) (s : Option Shape) → Own demand root n s → Placed demand root s → Keeps demand root (node_pathed sight n s)
  node_keeps demand root n s o p = record { lawful = o.lawful; same = o.same; refers = ap (λ (t : Option Shape). may_refer demand.paths root t) (node_shape sight n s) ∙ p.refers; near = o.near; freed = p.freed }

  -- so does an expression that is made of it
  pub made_keeps : (demand : Demand) (root : Option Root) (n : TypedNode) (s : Option Shape) → Own demand root n s → Placed demand root s → Keeps demand root (path_of sight (roll-TypedExpr record { shape = s; node = n }))
  made_keeps demand root n s o p = subst (λ (q : Path). Keeps demand root q) (sym (path_made sight s n)) (node_keeps demand root n s o p)

  -- and what is judged of it
  pub made_stands : (demand : Demand) (root : Option Root) (n : TypedNode) (s : Option Shape) → Own demand root n s → Placed demand root s → Standing demand (record { typed = roll-TypedExpr record { shape = s; node = n }; root = root; signed = false })
  made_stands demand root n s o p = record { keeps = made_keeps demand root n s o p; signed = λ never. absurd (cc) }

  -- a node stands at its place
  pub stands_kept : (spot : Spot) (demand : Demand) (own : Option ℕ) (root : Option Root) (g : Gives) (n : TypedNode) → (own ≡ None → Own demand root n (shape_given g)) → Sure (Standing demand) (placed_stands spot demand own root g n)
  stands_kept spot demand own root g n h =
      sure_then (λ s. Own demand root n s × Placed demand root s) (Standing demand) (placed spot demand own root g) (judged root n)
      (placed_kept (λ s. Own demand root n s × Placed demand root s) spot demand own root g (λ none p. (h none, p)))
      (λ s both. sure_sound (Standing demand) (record { typed = roll-TypedExpr record { shape = s; node = n }; root = root; signed = false }) (made_stands demand root n s both.0 both.1))

  -- what isn't a path
  pub valued : (demand : Demand) (n : TypedNode) (s : Option Shape) (b : Bool) → node_pathed sight n s ≡ value s b → b ≡ true → Own demand None n s
  valued demand n s b is h = record {
    lawful = ap (λ (p : Path). p.lawful) is ∙ h;
    same = subst (λ (p : Path). SameRoot None p.root) (sym is) tt;
    near = λ changed. ap (λ (p : Path). is_near p.root) is;
  }

  -- what isn't a path stands at its place
  pub value_kept : (spot : Spot) (demand : Demand) (own : Option ℕ) (g : Gives) (n : TypedNode) (b : Bool) → ((s : Option Shape) → node_pathed sight n s ≡ value s b) → (own ≡ None → b ≡ true) → Sure (Standing demand) (placed_stands spot demand own None g n)
  value_kept spot demand own g n b is h = stands_kept spot demand own None g n (λ none. valued demand n (shape_given g) b (is (shape_given g)) (h none))
