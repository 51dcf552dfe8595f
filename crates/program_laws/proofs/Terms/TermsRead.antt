-- An event expression without faults has its shapes.
use Rattle.std.proofs.Common.{◌≡◌, ◌∷◌, ◌++◌}
use Rattle.program_laws.proofs.Common.{ℕ, Bool, true, false, List, [], map, drop, length, Option, Some, None, refl, sym, ap, subst, ◌∙◌, and_from, and_parts, Spot, Duration, Template, EventExpr, EventExpr-F, map-EventExpr, roll-EventExpr, fold-roll-EventExpr, EventNode, EventNode-F, map-EventNode, roll-EventNode, fold-EventNode, fold-roll-EventNode, ind-EventExpr, TypedExpr, Term, Term-F, map-Term, roll-Term, fold-roll-Term, Names, duration_so, fits_term, Scope, Table, told, KnowsTable, KnowsNamed, Sofar, clauses_bind, template_read, not_codes, each_step, behind_step, each_behind, may_begin, Went, went, either, any_of, duration_names, template_names, limit_names, event_node, event_step, event_names}
use Rattle.epl_tree.specs.declared.event.EventNode.TheOpen as node
use Rattle.typed_program.specs.declared.term.Term.TheVariants as term
use Rattle.typed_program.specs.declared.term.Term.TheOpen as layer
use Rattle.typed_program.specs.Terms.{Around, all_hold, term_so}
use Rattle.listener_check.specs.Bound as bound
use Rattle.listener_check.specs.Durations.{duration_read}
use Rattle.listener_check.specs.Limits.{leaf_read}
use Rattle.listener_check.specs.Terms.{Reading, Part, each, followed_behind, followed_read, joined_behind, or_read, xor_read, and_read, not_read, all_read, deadline_read, plain, negated, wait_read, ended_read, group_read, leaf_template_read, node_step, expr_step, part_of}
use Rattle.listener_check.specs.Went.{through, ◌>>=◌}
use Rattle.stmt_check.specs.Captures.{Names as Naming}
use Rattle.program_laws.proofs.Exprs.Knowing.{knows_left, knows_right, knows_first, knows_rest}
use Rattle.program_laws.proofs.Terms.Binding.{Grows, grows_self, grows_on, clauses_grow}
use Rattle.program_laws.proofs.Terms.DurationsRead.{Lasts, duration_thus}
use Rattle.program_laws.proofs.Terms.States.{Settled, State, Made, Kept, Extends, around, fit_on, leaf_thus, extends_same, extends_on}
use Rattle.program_laws.proofs.Terms.TemplatesRead.{Reads, TemplateGood, template_thus}
use Rattle.program_laws.proofs.Terms.Thus.{Thus, thus_went, thus_then, thus_behind}

-- ---- what is made of terms

fits_made : (a : Around) (d : Term-F Term) (t : Term) → roll-Term d ≡ t → term_so a (map-Term Term Bool (fits_term a) d) ≡ true → fits_term a t ≡ true
fits_made a d t is h = ap (fits_term a) (sym is) ∙ fold-roll-Term Bool (term_so a) d ∙ h

abbrev pub TermSo : Term → Around → Bool
TermSo t a = fits_term a t

abbrev TermsSo : List Term → Around → Bool
TermsSo ts a = all_hold (map (fits_term a) ts)

terms_push : (a : Around) (ts : List Term) (t : Term) → TermsSo ts a ≡ true → fits_term a t ≡ true → TermsSo (ts ++ t ∷ []) a ≡ true
terms_push a [] t h k = and_from (fits_term a t) true k refl
terms_push a (u ∷ ts) t h k = let p = and_parts (fits_term a u) (TermsSo ts a) h in and_from (fits_term a u) (TermsSo (ts ++ t ∷ []) a) p.0 (terms_push a ts t p.1 k)

-- a chain has its shapes where its operands have them
abbrev Chains : (Term → List Term → Term) → Type 0
Chains made = (a : Around) (head : Term) (tail : List Term) → fits_term a head ≡ true → TermsSo tail a ≡ true → fits_term a (made head tail) ≡ true

followed_chains : Chains term.Followed
followed_chains a head tail h t = fits_made a (layer.Followed head tail) (term.Followed head tail) (term.rolls-Followed head tail) (and_from (fits_term a head) (TermsSo tail a) h t)

or_chains : Chains term.Or
or_chains a head tail h t = fits_made a (layer.Or head tail) (term.Or head tail) (term.rolls-Or head tail) (and_from (fits_term a head) (TermsSo tail a) h t)

xor_chains : Chains term.Xor
xor_chains a head tail h t = fits_made a (layer.Xor head tail) (term.Xor head tail) (term.rolls-Xor head tail) (and_from (fits_term a head) (TermsSo tail a) h t)

and_chains : Chains term.And
and_chains a head tail h t = fits_made a (layer.And head tail) (term.And head tail) (term.rolls-And head tail) (and_from (fits_term a head) (TermsSo tail a) h t)

module _ (table : Table) (names : Names) (scope inner : Scope) (k : KnowsTable table names scope) where
  abbrev pub outer : ℕ
  outer = length scope.names

  abbrev pub ReadsTerm : Sofar → Scope → Term → Sofar → Type 0
  ReadsTerm s c t u = Reads names scope inner TermSo s c t u

  abbrev ReadsTerms : Sofar → Scope → List Term → Sofar → Type 0
  ReadsTerms s c ts u = Reads names scope inner TermsSo s c ts u

  -- a part that is read as it should be where the names that it names are known, and the names that it binds
  pub record PartReads (named : Naming) (p : Part) (f : Scope → Scope) : Type 0 where
    pub grows : (c : Scope) → Grows c (f c)
    pub reads : KnowsNamed names scope named → (may under : Bool) (left : List (List ℕ)) (c : Scope) (s : Sofar) → State names scope inner c s → Thus (ReadsTerm s (f c)) (p.reading may under left s)

  -- the same facts of a part, and of what was read before it
  term_on : (s u : Sofar) (c d : Scope) (t : Sofar) (x : Term) → Extends t u → Grows c d → (Settled names scope inner → Grows c inner → (more : List TypedExpr) → TermSo x (around names scope inner (t.operands ++ more)) ≡ true) → Settled names scope inner → Grows d inner → (more : List TypedExpr) → TermSo x (around names scope inner (u.operands ++ more)) ≡ true
  term_on s u c d t x e g fit z gd more = fit_on names scope inner TermSo x t u (fit z (grows_on c d inner g gd)) e more

  terms_on : (u : Sofar) (c d : Scope) (t : Sofar) (xs : List Term) → Extends t u → Grows c d → (Settled names scope inner → Grows c inner → (more : List TypedExpr) → TermsSo xs (around names scope inner (t.operands ++ more)) ≡ true) → Settled names scope inner → Grows d inner → (more : List TypedExpr) → TermsSo xs (around names scope inner (u.operands ++ more)) ≡ true
  terms_on u c d t xs e g fit z gd more = fit_on names scope inner TermsSo xs t u (fit z (grows_on c d inner g gd)) e more

  -- ---- parts in order

  step_thus : (may under : Bool) (left : List (List ℕ)) (start : Sofar) (done : List Term) (named : Naming) (p : Part) (f : Scope → Scope) (c : Scope) (s : Sofar) → PartReads named p f → KnowsNamed names scope named → ReadsTerms start c done s → Thus (ReadsTerms start (f c)) (each_step may under left done p s)
  step_thus may under left start done named p f c s r known m =
      thus_then (ReadsTerm s (f c)) (ReadsTerms start (f c)) (p.reading may under left s) (λ t u. went (done ++ t ∷ []) u)
      (r.reads known may under left c s m.state)
      (λ t u q. thus_went (ReadsTerms start (f c)) (done ++ t ∷ []) u (record {
        state = q.state;
        grows = extends_on start s u m.grows q.grows;
        fit = λ z g more. terms_push (around names scope inner (u.operands ++ more)) done t (terms_on u c (f c) s done q.grows (r.grows c) m.fit z g more) (q.fit z g more);
      }))

  abbrev Steps : (List Term → Part → Sofar → Went (List Term)) → Type 0
  Steps step = (start : Sofar) (done : List Term) (named : Naming) (p : Part) (f : Scope → Scope) (c : Scope) (s : Sofar) → PartReads named p f → KnowsNamed names scope named → ReadsTerms start c done s → Thus (ReadsTerms start (f c)) (step done p s)

  abbrev pub ForExpr : EventExpr → Type 0
  ForExpr e = PartReads (event_names e) (part_of table scope inner e) (bound.binds table outer e)

  abbrev X : Type 0
  X = (e : EventExpr) × ForExpr e

  abbrev trees : List X → List EventExpr
  trees ys = map (λ e. e.0) ys

  abbrev parts : List X → List Part
  parts ys = map (part_of table scope inner) (trees ys)

  abbrev binders : List X → List (Scope → Scope)
  binders ys = map (bound.binds table outer) (trees ys)

  abbrev naming : List X → Naming
  naming ys = any_of (map event_names (trees ys))

  abbrev all_bind : List X → Scope → Scope
  all_bind ys c = bound.each table outer (binders ys) c

  all_grow : (ys : List X) (c : Scope) → Grows c (all_bind ys c)
  all_grow [] c = grows_self c
  all_grow (y ∷ ys) c = grows_on c (bound.binds table outer y.0 c) (all_bind ys (bound.binds table outer y.0 c)) (let r = y.1 in r.grows c) (all_grow ys (bound.binds table outer y.0 c))

  all_thus : (step : List Term → Part → Sofar → Went (List Term)) → Steps step → (ys : List X) → KnowsNamed names scope (naming ys) → (start : Sofar) (done : List Term) (c : Scope) (s : Sofar) → ReadsTerms start c done s → Thus (ReadsTerms start (all_bind ys c)) (through step done (parts ys) s)
  unfolding through
  all_thus step steps [] known start done c s m = thus_went (ReadsTerms start c) done s m
  all_thus step steps (y ∷ ys) known start done c s m =
      let d = bound.binds table outer y.0 c in
      thus_then (ReadsTerms start d) (ReadsTerms start (all_bind ys d)) (step done (part_of table scope inner y.0) s) (λ next u. through step next (parts ys) u)
      (steps start done (event_names y.0) (part_of table scope inner y.0) (bound.binds table outer y.0) c s y.1 (knows_first names scope (event_names y.0) (map event_names (trees ys)) known) m)
      (λ next u q. all_thus step steps ys (knows_rest names scope (event_names y.0) (map event_names (trees ys)) known) start next d u q)

  none_yet : (c : Scope) (s : Sofar) → State names scope inner c s → ReadsTerms s c [] s
  none_yet c s h = record { state = h; grows = extends_same s s refl; fit = λ z g more. refl }

  each_thus : (may under : Bool) (left : List (List ℕ)) (ys : List X) → KnowsNamed names scope (naming ys) → (c : Scope) (s : Sofar) → State names scope inner c s → Thus (ReadsTerms s (all_bind ys c)) (each may under left (parts ys) s)
  each_thus may under left ys known c s h = all_thus (each_step may under left) (λ start done n p f d t r k m. step_thus may under left start done n p f d t r k m) ys known s [] c s (none_yet c s h)

  each_behind_thus : (start : ℕ) (under : Bool) (left : List (List ℕ)) (ys : List X) → KnowsNamed names scope (naming ys) → (c : Scope) (s : Sofar) → State names scope inner c s → Thus (ReadsTerms s (all_bind ys c)) (each_behind start under left (parts ys) s)
  each_behind_thus start under left ys known c s h = all_thus (behind_step start under left) (λ first done n p f d t r k m. step_thus false under (left ++ drop start t.names) first done n p f d t r k m) ys known s [] c s (none_yet c s h)

  -- ---- chains

  chain_thus : (made : Term → List Term → Term) → Chains made → (head : Term) (ys : List X) (c : Scope) (start s : Sofar) (w : Went (List Term)) → ReadsTerm start c head s → Thus (ReadsTerms s (all_bind ys c)) w → Thus (ReadsTerm start (all_bind ys c)) (w >>= λ tail u. went (made head tail) u)
  chain_thus made chains head ys c start s w m rest =
      thus_then (ReadsTerms s (all_bind ys c)) (ReadsTerm start (all_bind ys c)) w (λ tail u. went (made head tail) u) rest
      (λ tail u q. thus_went (ReadsTerm start (all_bind ys c)) (made head tail) u (record {
        state = q.state;
        grows = extends_on start s u m.grows q.grows;
        fit = λ z g more. chains (around names scope inner (u.operands ++ more)) head tail (term_on start u c (all_bind ys c) s head q.grows (all_grow ys c) m.fit z g more) (q.fit z g more);
      }))

  chained_thus : (made : Term → List Term → Term) → Chains made → (may_first may_rest : Bool) (first : X) (ys : List X) → KnowsNamed names scope (either (event_names first.0) (naming ys)) → (under : Bool) (left : List (List ℕ)) (c : Scope) (s : Sofar) → State names scope inner c s → Thus (ReadsTerm s (all_bind ys (bound.binds table outer first.0 c))) ((part_of table scope inner first.0).reading may_first under left s >>= λ head u. (each may_rest under left (parts ys) u >>= λ tail v. went (made head tail) v))
  chained_thus made chains may_first may_rest first ys known under left c s h =
      let d = bound.binds table outer first.0 c in
      thus_then (ReadsTerm s d) (ReadsTerm s (all_bind ys d)) ((part_of table scope inner first.0).reading may_first under left s) (λ head u. (each may_rest under left (parts ys) u >>= λ tail v. went (made head tail) v))
      (let r = first.1 in r.reads (knows_left names scope (event_names first.0) (naming ys) known) may_first under left c s h)
      (λ head u m. chain_thus made chains head ys d s u (each may_rest under left (parts ys) u) m (each_thus may_rest under left ys (knows_right names scope (event_names first.0) (naming ys) known) d u m.state))

  followed_thus : (first : X) (ys : List X) → KnowsNamed names scope (either (event_names first.0) (naming ys)) → (under : Bool) (left : List (List ℕ)) (c : Scope) (s : Sofar) → State names scope inner c s → Thus (ReadsTerm s (all_bind ys (bound.binds table outer first.0 c))) (followed_read (part_of table scope inner first.0) (parts ys) under left s)
  unfolding followed_read followed_behind
  followed_thus first ys known under left c s h =
      let d = bound.binds table outer first.0 c in
      thus_then (ReadsTerm s d) (ReadsTerm s (all_bind ys d)) ((part_of table scope inner first.0).reading false under left s) (λ head u. followed_behind (length s.names) head (parts ys) under left u)
      (let r = first.1 in r.reads (knows_left names scope (event_names first.0) (naming ys) known) false under left c s h)
      (λ head u m. chain_thus term.Followed followed_chains head ys d s u (each_behind (length s.names) under left (parts ys) u) m (each_behind_thus (length s.names) under left ys (knows_right names scope (event_names first.0) (naming ys) known) d u m.state))

  chain_reads : (reading : Reading) (first : X) (ys : List X) → (KnowsNamed names scope (either (event_names first.0) (naming ys)) → (under : Bool) (left : List (List ℕ)) (c : Scope) (s : Sofar) → State names scope inner c s → Thus (ReadsTerm s (all_bind ys (bound.binds table outer first.0 c))) (reading under left s)) → PartReads (either (event_names first.0) (naming ys)) (plain reading) (λ c. all_bind ys (bound.binds table outer first.0 c))
  chain_reads reading first ys h = record {
    grows = λ c. grows_on c (bound.binds table outer first.0 c) (all_bind ys (bound.binds table outer first.0 c)) (let r = first.1 in r.grows c) (all_grow ys (bound.binds table outer first.0 c));
    reads = λ known may under left c s state. h known under left c s state;
  }

  -- ---- parts of one

  one_thus : (made : Term → Term) → ((a : Around) (t : Term) → fits_term a t ≡ true → fits_term a (made t) ≡ true) → (x : X) → KnowsNamed names scope (event_names x.0) → (under : Bool) (left : List (List ℕ)) (c : Scope) (s : Sofar) → State names scope inner c s → Thus (ReadsTerm s (bound.binds table outer x.0 c)) ((part_of table scope inner x.0).reading false under left s >>= λ t u. went (made t) u)
  one_thus made keeps x known under left c s h =
      let d = bound.binds table outer x.0 c in
      thus_then (ReadsTerm s d) (ReadsTerm s d) ((part_of table scope inner x.0).reading false under left s) (λ t u. went (made t) u)
      (let r = x.1 in r.reads known false under left c s h)
      (λ t u m. thus_went (ReadsTerm s d) (made t) u (record { state = m.state; grows = m.grows; fit = λ z g more. keeps (around names scope inner (u.operands ++ more)) t (m.fit z g more) }))

  all_reads : (x : X) → PartReads (event_names x.0) (plain (all_read (part_of table scope inner x.0))) (bound.binds table outer x.0)
  unfolding all_read
  all_reads x = record { grows = (let r = x.1 in r.grows); reads = λ known may under left c s h. one_thus term.All (λ a t fits. fits_made a (layer.All t) (term.All t) (term.rolls-All t) fits) x known under left c s h }

  not_reads : (spot : Spot) (x : X) → PartReads (event_names x.0) (negated spot (part_of table scope inner x.0)) (bound.binds table outer x.0)
  unfolding not_read
  not_reads spot x = record {
    grows = (let r = x.1 in r.grows);
    reads = λ known may under left c s h.
        thus_behind (ReadsTerm s (bound.binds table outer x.0 c)) (told spot (not_codes may)) ((part_of table scope inner x.0).reading false true left s >>= λ t u. went (term.Not t) u) (λ none.
        one_thus term.Not (λ a t fits. fits_made a (layer.Not t) (term.Not t) (term.rolls-Not t) fits) x known true left c s h);
  }

  deadline_thus : (spot : Spot) (within : Option Duration) (c : Scope) (s : Sofar) → State names scope inner c s → Thus (λ u t. Kept names scope inner c s t) (deadline_read spot within s)
  unfolding deadline_read
  deadline_thus spot (Some d) c s h = leaf_thus names scope inner spot c s h
  deadline_thus spot None c s h = thus_went (λ u t. Kept names scope inner c s t) tt s (record { state = h; grows = extends_same s s refl })

  ended_thus : (t : Term) (within : Option Duration) → KnowsNamed names scope (limit_names within) → (c : Scope) (start s : Sofar) → ReadsTerm start c t s → Thus (ReadsTerm start c) (ended_read table scope inner t within s)
  unfolding ended_read around
  ended_thus t None known c start s m = thus_went (ReadsTerm start c) (term.Group t None) s (record {
    state = m.state;
    grows = m.grows;
    fit = λ z g more.
        let a = around names scope inner (s.operands ++ more) in fits_made a (layer.Group t None) (term.Group t None) (term.rolls-Group t None) (and_from (fits_term a t) true (m.fit z g more) refl);
  })
  ended_thus t (Some d) known c start s m =
      thus_then (Made names scope inner (Lasts table names scope inner k) c s) (ReadsTerm start c) (duration_read table scope inner d s) (λ at u. went (term.Group t (Some at)) u)
      (duration_thus table names scope inner k d known c s m.state)
      (λ at u q. thus_went (ReadsTerm start c) (term.Group t (Some at)) u (record {
        state = q.state;
        grows = extends_on start s u m.grows q.grows;
        fit = λ z g more.
            let a = around names scope inner (u.operands ++ more) in
            fits_made a (layer.Group t (Some at)) (term.Group t (Some at)) (term.rolls-Group t (Some at)) (and_from (fits_term a t) (duration_so a (Some at)) (fit_on names scope inner TermSo t s u (m.fit z g) q.grows more) (q.fit z more));
      }))

  group_reads : (spot : Spot) (x : X) (within : Option Duration) → PartReads (either (event_names x.0) (limit_names within)) (plain (group_read table scope inner spot (part_of table scope inner x.0) within)) (bound.binds table outer x.0)
  unfolding group_read
  group_reads spot x within = record {
    grows = (let r = x.1 in r.grows);
    reads = λ known may under left c s h.
        let d = bound.binds table outer x.0 c in
        thus_then (λ u t. Kept names scope inner c s t) (ReadsTerm s d) (deadline_read spot within s) (λ u t. (part_of table scope inner x.0).reading false under left t >>= λ y v. ended_read table scope inner y within v)
        (deadline_thus spot within c s h)
        (λ u t q. thus_then (ReadsTerm t d) (ReadsTerm s d) ((part_of table scope inner x.0).reading false under left t) (λ y v. ended_read table scope inner y within v)
        (let r = x.1 in r.reads (knows_left names scope (event_names x.0) (limit_names within) known) false under left c t q.state)
        (λ y v m. ended_thus y within (knows_right names scope (event_names x.0) (limit_names within) known) d s v (record { state = m.state; grows = extends_on s t v q.grows m.grows; fit = m.fit })));
  }

  -- ---- leaves

  wait_reads : (spot : Spot) (d : Duration) → PartReads (duration_names d) (plain (λ under left s. wait_read table scope inner spot d s)) (λ c. c)
  unfolding wait_read around
  wait_reads spot d = record {
    grows = grows_self;
    reads = λ known may under left c s h.
        thus_then (λ u t. Kept names scope inner c s t) (ReadsTerm s c) (leaf_read spot s) (λ u t. duration_read table scope inner d t >>= λ at v. went (term.Wait at) v)
        (leaf_thus names scope inner spot c s h)
        (λ u t q. thus_then (Made names scope inner (Lasts table names scope inner k) c t) (ReadsTerm s c) (duration_read table scope inner d t) (λ at v. went (term.Wait at) v)
        (duration_thus table names scope inner k d known c t q.state)
        (λ at v m. thus_went (ReadsTerm s c) (term.Wait at) v (record {
          state = m.state;
          grows = extends_on s t v q.grows m.grows;
          fit = λ z g more.
              fits_made (around names scope inner (v.operands ++ more)) (layer.Wait at) (term.Wait at) (term.rolls-Wait at) (m.fit z more);
        })));
  }

  template_reads : (spot : Spot) (t : Template) → PartReads (template_names t) (plain (λ under left s. leaf_template_read table scope inner spot under left t s)) (clauses_bind table outer t.event t.clauses)
  unfolding leaf_template_read
  template_reads spot t = record {
    grows = clauses_grow table outer t.event t.clauses;
    reads = λ known may under left c s h.
        let d = clauses_bind table outer t.event t.clauses c in
        thus_then (Reads names scope inner (TemplateGood table names scope inner k) s d) (ReadsTerm s d) (template_read table scope inner spot under left t s) (λ x u. went (term.Template x) u)
        (template_thus table names scope inner k spot under left t known c s h)
        (λ x u m. thus_went (ReadsTerm s d) (term.Template x) u (record {
          state = m.state;
          grows = m.grows;
          fit = λ z g more.
              fits_made (around names scope inner (u.operands ++ more)) (layer.Template x) (term.Template x) (term.rolls-Template x) (m.fit z g more);
        }));
  }

  -- ---- every event expression

  abbrev node_of : EventNode → Spot → Part
  node_of = fold-EventNode (Spot → Part) Part (node_step table scope inner) (expr_step table scope inner)

  abbrev node_binds : EventNode → Scope → Scope
  node_binds = fold-EventNode (Scope → Scope) (Scope → Scope) (bound.node_step table outer) (bound.expr_step table outer)

  abbrev node_names : EventNode → Naming
  node_names = fold-EventNode Naming Naming event_node event_step

  record ForNode (n : EventNode) : Type 0 where
    at_spot : (spot : Spot) → PartReads (node_names n) (node_of n spot) (node_binds n)

  abbrev N : Type 0
  N = (n : EventNode) × ForNode n

  abbrev node_trees : EventNode-F N X → EventNode-F EventNode EventExpr
  node_trees y = map-EventNode N X EventNode EventExpr (λ e. e.0) (λ e. e.0) y

  abbrev node_parts : EventNode-F EventNode EventExpr → EventNode-F (Spot → Part) Part
  node_parts x = map-EventNode EventNode EventExpr (Spot → Part) Part node_of (part_of table scope inner) x

  abbrev node_binders : EventNode-F EventNode EventExpr → EventNode-F (Scope → Scope) (Scope → Scope)
  node_binders x = map-EventNode EventNode EventExpr (Scope → Scope) (Scope → Scope) node_binds (bound.binds table outer) x

  abbrev node_naming : EventNode-F EventNode EventExpr → EventNode-F Naming Naming
  node_naming x = map-EventNode EventNode EventExpr Naming Naming node_names event_names x

  node_at : (y : EventNode-F N X) (spot : Spot) → PartReads (event_node (node_naming (node_trees y))) (node_step table scope inner (node_parts (node_trees y)) spot) (bound.node_step table outer (node_binders (node_trees y)))
  unfolding or_read xor_read and_read joined_behind
  node_at (node.Followed first rest) spot = chain_reads (followed_read (part_of table scope inner first.0) (parts rest)) first rest (λ known under left c s h. followed_thus first rest known under left c s h)
  node_at (node.Or first rest) spot = chain_reads (or_read (part_of table scope inner first.0) (parts rest)) first rest (λ known under left c s h. chained_thus term.Or or_chains false false first rest known under left c s h)
  node_at (node.Xor first rest) spot = chain_reads (xor_read (part_of table scope inner first.0) (parts rest)) first rest (λ known under left c s h. chained_thus term.Xor xor_chains false false first rest known under left c s h)
  node_at (node.And first rest) spot = chain_reads (and_read (part_of table scope inner first.0) (parts rest)) first rest (λ known under left c s h. chained_thus term.And and_chains (may_begin (parts rest)) true first rest known under left c s h)
  node_at (node.All x) spot = all_reads x
  node_at (node.Not x) spot = not_reads spot x
  node_at (node.Group x within) spot = group_reads spot x within
  node_at (node.Wait d) spot = wait_reads spot d
  node_at (node.Template t) spot = template_reads spot t

  node_case : (x : EventNode-F EventNode EventExpr) (y : EventNode-F N X) → node_trees y ≡ x → ForNode (roll-EventNode x)
  node_case x y is = subst (λ (z : EventNode-F EventNode EventExpr). ForNode (roll-EventNode z)) is (record {
    at_spot = λ spot.
        subst (λ (n : Naming). PartReads n (node_of (roll-EventNode (node_trees y)) spot) (node_binds (roll-EventNode (node_trees y)))) (sym (fold-roll-EventNode Naming Naming event_node event_step (node_trees y)))
        (subst (λ (f : Spot → Part). PartReads (event_node (node_naming (node_trees y))) (f spot) (node_binds (roll-EventNode (node_trees y)))) (sym (fold-roll-EventNode (Spot → Part) Part (node_step table scope inner) (expr_step table scope inner) (node_trees y)))
        (subst (λ (f : Scope → Scope). PartReads (event_node (node_naming (node_trees y))) (node_step table scope inner (node_parts (node_trees y)) spot) f) (sym (fold-roll-EventNode (Scope → Scope) (Scope → Scope) (bound.node_step table outer) (bound.expr_step table outer) (node_trees y)))
        (node_at y spot)));
  })

  abbrev expr_trees : EventExpr-F N X → EventExpr-F EventNode EventExpr
  expr_trees y = map-EventExpr N X EventNode EventExpr (λ e. e.0) (λ e. e.0) y

  expr_case : (x : EventExpr-F EventNode EventExpr) (y : EventExpr-F N X) → expr_trees y ≡ x → ForExpr (roll-EventExpr x)
  expr_case x y is = subst (λ (z : EventExpr-F EventNode EventExpr). ForExpr (roll-EventExpr z)) is
      (subst (λ (n : Naming). PartReads n (part_of table scope inner (roll-EventExpr (expr_trees y))) (bound.binds table outer (roll-EventExpr (expr_trees y)))) (sym (fold-roll-EventExpr Naming Naming event_node event_step (expr_trees y)))
      (subst (λ (p : Part). PartReads (node_names y.node.0) p (bound.binds table outer (roll-EventExpr (expr_trees y)))) (sym (fold-roll-EventExpr (Spot → Part) Part (node_step table scope inner) (expr_step table scope inner) (expr_trees y)))
      (subst (λ (f : Scope → Scope). PartReads (node_names y.node.0) (expr_step table scope inner (map-EventExpr EventNode EventExpr (Spot → Part) Part node_of (part_of table scope inner) (expr_trees y))) f) (sym (fold-roll-EventExpr (Scope → Scope) (Scope → Scope) (bound.node_step table outer) (bound.expr_step table outer) (expr_trees y)))
      (let n = y.node.1 in n.at_spot y.spot))))

  pub expr_reads : (e : EventExpr) → ForExpr e
  expr_reads = ind-EventExpr ForNode ForExpr node_case expr_case
