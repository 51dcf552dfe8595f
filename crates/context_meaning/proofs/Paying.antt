-- Runs pay for what their effects weigh: the fuel behind a run, with what its effects weigh, is at most the fuel before it.
use Rattle.context_meaning.proofs.Common.{ℕ, List, [], Bool, true, false, nat_lt, nat_le, Err, refl, sym, subst, arith, AllByRecursion, cond_both, Effect, Scene, Outcome, Went, Ended, M}
use Rattle.std.proofs.Common.{◌≡◌, ◌+◌, ◌≤◌, ◌∷◌, ◌++◌, ◌==◌, Result, Ok, leb-true}
use Rattle.std.specs.List.{sum_by}
use Rattle.std.proofs.lemmas.List.Sums.{sum_by-append}
use Rattle.action_host.specs.declared.host.Fault.{Fault}
use Rattle.action_host.specs.declared.host.Effect.TheVariants as effect
use Rattle.action_host.specs.declared.host.Answer.{Answer}
use Rattle.action_host.specs.declared.host.Answer.TheVariants as answer
use Rattle.action_host.specs.Scenes.{spent_by}
use Rattle.action_host.specs.Replies.{reply}
use Rattle.action_host.proofs.Replying.{reply_is_lawful}
use Rattle.body_meaning.specs.declared.run.Frame.{Frame}
use Rattle.body_meaning.specs.declared.run.Halt.{Halt}
use Rattle.body_meaning.specs.Runs.{State, Did, nothing, replied, behind, then_do, ◌>>=◌, ◌>>◌, pure, halt, charge, charge_if, perform, settle, given, looked, look, by_scene, change, changed, choose, all_behind, all, two}

-- ---- fuel behind runs

-- an outcome leaves at most this fuel, with what its effects weigh
abbrev pub OutcomePays : {A : Type 0} → (Effect → ℕ) → ℕ → Outcome A → Type 0
OutcomePays weigh fuel (Went did x s) = s.scene.fuel + sum_by weigh did.effects ≤ fuel
OutcomePays weigh fuel (Ended did why s) = s.scene.fuel + sum_by weigh did.effects ≤ fuel

-- a run pays for what its effects weigh
pub record Pays {A : Type 0} (weigh : Effect → ℕ) (m : M A) : Type 0 where
  pub from : (s : State) → OutcomePays weigh s.scene.fuel (m s)

-- so does a run with the charge of the statement that it stands in
pub record Owes {A : Type 0} (weigh : Effect → ℕ) (m : M A) : Type 0 where
  pub from : (s : State) → OutcomePays weigh (s.scene.fuel + 1) (m s)

-- nothing is added
no_more : (n : ℕ) → n + 0 ≤ n
no_more n = omega arith

-- what was routed before counts too
before_too : (a b n fuel fuel1 : ℕ) → n + b ≤ fuel1 → fuel1 + a ≤ fuel → n + (a + b) ≤ fuel
before_too a b n fuel fuel1 h k = omega arith

-- an outcome behind what was done before
behind_pays : {A : Type 0} (weigh : Effect → ℕ) (fuel fuel1 : ℕ) (before : Did) (o : Outcome A) → fuel1 + sum_by weigh before.effects ≤ fuel → OutcomePays weigh fuel1 o → OutcomePays weigh fuel (behind before o)
behind_pays weigh fuel fuel1 before (Went did x s) h k = subst (λ n. s.scene.fuel + n ≤ fuel) (sym (sum_by-append weigh before.effects did.effects)) (before_too (sum_by weigh before.effects) (sum_by weigh did.effects) s.scene.fuel fuel fuel1 k h)
behind_pays weigh fuel fuel1 before (Ended did why s) h k = subst (λ n. s.scene.fuel + n ≤ fuel) (sym (sum_by-append weigh before.effects did.effects)) (before_too (sum_by weigh before.effects) (sum_by weigh did.effects) s.scene.fuel fuel fuel1 k h)

-- more may be left
more_pays : {A : Type 0} (weigh : Effect → ℕ) (fuel fuel1 : ℕ) (o : Outcome A) → fuel1 ≤ fuel → OutcomePays weigh fuel1 o → OutcomePays weigh fuel o
more_pays weigh fuel fuel1 (Went did x s) h k = omega (arith, h, k)
more_pays weigh fuel fuel1 (Ended did why s) h k = omega (arith, h, k)

-- an outcome, and then a run
then_pays : {A B : Type 0} (weigh : Effect → ℕ) (fuel : ℕ) (o : Outcome A) (go : A → M B) → OutcomePays weigh fuel o → ((x : A) → Pays weigh (go x)) → OutcomePays weigh fuel (then_do o go)
then_pays weigh fuel (Went did x s) go h k = behind_pays weigh fuel s.scene.fuel did (go x s) h ((k x).from s)
then_pays weigh fuel (Ended did why s) go h k = h

-- fuel before, and what comes to one more
one_more : (a b fuel : ℕ) → a + b ≤ fuel → (a + 1) + b ≤ fuel + 1
one_more a b fuel h = omega arith

-- an outcome, and then a run that the charge of its statement pays
then_owes : {A B : Type 0} (weigh : Effect → ℕ) (fuel : ℕ) (o : Outcome A) (go : A → M B) → OutcomePays weigh fuel o → ((x : A) → Owes weigh (go x)) → OutcomePays weigh (fuel + 1) (then_do o go)
then_owes weigh fuel (Went did x s) go h k = behind_pays weigh (fuel + 1) (s.scene.fuel + 1) did (go x s) (one_more s.scene.fuel (sum_by weigh did.effects) fuel h) ((k x).from s)
then_owes weigh fuel (Ended did why s) go h k = omega (arith, h)

-- a charge
charge_pays : (weigh : Effect → ℕ) (b : Bool) (amount : ℕ) (s : State) → OutcomePays weigh s.scene.fuel (charge_if b amount s)
charge_pays weigh true amount s = omega arith
charge_pays weigh false amount s = no_more s.scene.fuel

-- what is looked up
looked_pays : {A : Type 0} (weigh : Effect → ℕ) (r : Result A Fault) (s : State) → OutcomePays weigh s.scene.fuel (looked r s)
looked_pays weigh (Ok x) s = no_more s.scene.fuel
looked_pays weigh (Err fault) s = no_more s.scene.fuel

-- a change of the variables
changed_pays : (weigh : Effect → ℕ) (r : Result Frame Fault) (s : State) → OutcomePays weigh s.scene.fuel (changed r s)
changed_pays weigh (Ok frame) s = no_more s.scene.fuel
changed_pays weigh (Err fault) s = no_more s.scene.fuel

-- an effect that is answered
settle_pays : (weigh : Effect → ℕ) (a : Answer) (e : Effect) (s : State) (fuel : ℕ) → s.scene.fuel + weigh e ≤ fuel → OutcomePays weigh fuel (settle a e s)
settle_pays weigh answer.Nothing e s fuel h = omega (arith, h)
settle_pays weigh (answer.Gives v) e s fuel h = omega (arith, h)
settle_pays weigh (answer.Fails fault) e s fuel h = omega (arith, h)

-- ---- single steps

-- a value that is only told
pub pays_pure : {weigh : Effect → ℕ} {A : Type 0} (x : A) → Pays weigh (pure x)
unfolding pure
pays_pure x = record { from = λ s. no_more s.scene.fuel }

-- an end
pub pays_halt : {weigh : Effect → ℕ} {A : Type 0} (why : Halt) → Pays weigh (halt {A = A} why)
unfolding halt
pays_halt why = record { from = λ s. no_more s.scene.fuel }

-- what is computed from values
pub pays_given : {weigh : Effect → ℕ} {A : Type 0} (r : Result A Fault) → Pays weigh (given r)
unfolding given
pays_given {weigh} r = record { from = λ s. looked_pays weigh r s }

-- what is read from the variables
pub pays_look : {weigh : Effect → ℕ} {A : Type 0} (g : Frame → A) → Pays weigh (look g)
unfolding look
pays_look g = record { from = λ s. no_more s.scene.fuel }

-- fuel
pub pays_charge : {weigh : Effect → ℕ} (amount : ℕ) → Pays weigh (charge amount)
unfolding charge
pays_charge {weigh} amount = record { from = λ s. charge_pays weigh (nat_le amount s.scene.fuel) amount s }

-- what the scene chooses
pub pays_by_scene : {weigh : Effect → ℕ} {A : Type 0} (g : Scene → M A) → ((scene : Scene) → Pays weigh (g scene)) → Pays weigh (by_scene g)
unfolding by_scene
pays_by_scene g h = record { from = λ s. (h s.scene).from s }

-- other variables
pub pays_change : {weigh : Effect → ℕ} (g : Frame → Result Frame Fault) → Pays weigh (change g)
unfolding change
pays_change {weigh} g = record { from = λ s. changed_pays weigh (g s.frame) s }

-- ---- one after another

-- one run, and then the one that its value chooses
pub pays_bind : {weigh : Effect → ℕ} {A B : Type 0} {m : M A} (go : A → M B) → Pays weigh m → ((x : A) → Pays weigh (go x)) → Pays weigh (m >>= go)
unfolding ◌>>=◌
pays_bind {weigh} {m = m} go a h = record { from = λ s. then_pays weigh s.scene.fuel (m s) go (a.from s) h }

-- one run, and then another
pub pays_seq : {weigh : Effect → ℕ} {A B : Type 0} {m : M A} {n : M B} → Pays weigh m → Pays weigh n → Pays weigh (m >> n)
unfolding ◌>>◌
pays_seq {weigh} {m = m} {n} a b = record { from = λ s. then_pays weigh s.scene.fuel (m s) (λ _. n) (a.from s) (λ _. b) }

-- either of two
pub pays_choose : {weigh : Effect → ℕ} {A : Type 0} (b : Bool) {m n : M A} → Pays weigh m → Pays weigh n → Pays weigh (choose b m n)
pays_choose true p q = p
pays_choose false p q = q

-- runs behind the values so far
behind_all : {A : Type 0} (weigh : Effect → ℕ) (xs : List A) (ms : List (M A)) → AllByRecursion (Pays weigh) ms → Pays weigh (all_behind xs ms)
behind_all weigh xs [] h = pays_pure xs
behind_all weigh xs (m ∷ ms) h = pays_bind _ h.0 (λ x. behind_all weigh (xs ++ x ∷ []) ms h.1)

-- all, from left to right
pub pays_all : {weigh : Effect → ℕ} {A : Type 0} (ms : List (M A)) → AllByRecursion (Pays weigh) ms → Pays weigh (all ms)
pays_all {weigh} ms h = behind_all weigh [] ms h

-- both, the left first
pub pays_two : {weigh : Effect → ℕ} {A B : Type 0} {m : M A} {n : M B} → Pays weigh m → Pays weigh n → Pays weigh (two m n)
unfolding two
pays_two a b = pays_bind _ a (λ x. pays_bind _ b (λ y. pays_pure (x, y)))

-- ---- with the charge of a statement

-- a run that pays by itself
pub owes_less : {weigh : Effect → ℕ} {A : Type 0} {m : M A} → Pays weigh m → Owes weigh m
owes_less {weigh} {m = m} h = record { from = λ s. more_pays weigh (s.scene.fuel + 1) s.scene.fuel (m s) (omega arith) (h.from s) }

-- behind a run that pays
pub owes_bind : {weigh : Effect → ℕ} {A B : Type 0} {m : M A} (go : A → M B) → Pays weigh m → ((x : A) → Owes weigh (go x)) → Owes weigh (m >>= go)
unfolding ◌>>=◌
owes_bind {weigh} {m = m} go a h = record { from = λ s. then_owes weigh s.scene.fuel (m s) go (a.from s) h }

-- before a run that pays
pub owes_seq : {weigh : Effect → ℕ} {A B : Type 0} {m : M A} {n : M B} → Owes weigh m → Pays weigh n → Owes weigh (m >> n)
unfolding ◌>>◌
owes_seq {weigh} {m = m} {n} a b = record { from = λ s. then_pays weigh (s.scene.fuel + 1) (m s) (λ _. n) (a.from s) (λ _. b) }

-- the charge of a statement, and then what it pays for
first_charge : {A : Type 0} (weigh : Effect → ℕ) (m : M A) (b : Bool) (s : State) → nat_le 1 s.scene.fuel ≡ b → Owes weigh m → OutcomePays weigh s.scene.fuel (then_do (charge_if b 1 s) (λ _. m))
first_charge weigh m true s is h =
    let enough = leb-true 1 s.scene.fuel is in
    let less = spent_by s.scene 1 in
    let back : less.fuel + 1 ≡ s.scene.fuel = omega (arith, enough) in
    behind_pays weigh s.scene.fuel (less.fuel + 1) nothing (m (record s { scene = less })) (omega (arith, back)) (h.from (record s { scene = less }))
first_charge weigh m false s is h = no_more s.scene.fuel

-- a statement that pays
pub pays_first : {weigh : Effect → ℕ} {A : Type 0} {m : M A} → Owes weigh m → Pays weigh (charge 1 >> m)
unfolding ◌>>◌ charge
pays_first {weigh} {m = m} h = record { from = λ s. first_charge weigh m (nat_le 1 s.scene.fuel) s refl h }

-- ---- effects

-- an effect that weighs so much
performed_pays : (weigh : Effect → ℕ) (e : Effect) (s : State) (fuel : ℕ) → s.scene.fuel + weigh e ≤ fuel → OutcomePays weigh fuel (replied (reply e s.scene s.draws) e s.frame)
performed_pays weigh e s fuel h = settle_pays weigh (reply e s.scene s.draws).answer e _ fuel (let same = (reply_is_lawful e s.scene s.draws).fuel in omega (arith, h, same))

-- an effect that weighs nothing
pub pays_perform : {weigh : Effect → ℕ} (e : Effect) → weigh e ≡ 0 → Pays weigh (perform e)
unfolding perform
pays_perform {weigh} e none = record { from = λ s. performed_pays weigh e s s.scene.fuel (omega (arith, none)) }

-- an effect that weighs at most 1
pub owes_perform : {weigh : Effect → ℕ} (e : Effect) → weigh e ≤ 1 → Owes weigh (perform e)
unfolding perform
owes_perform {weigh} e h = record { from = λ s. performed_pays weigh e s (s.scene.fuel + 1) (omega (arith, h)) }

-- an effect behind its charge, with so much more
charged_pays : (weigh : Effect → ℕ) (more cost : ℕ) (e : Effect) (b : Bool) (s : State) → nat_le cost s.scene.fuel ≡ b → weigh e ≤ cost + more → OutcomePays weigh (s.scene.fuel + more) (then_do (charge_if b cost s) (λ _. perform e))
unfolding perform
charged_pays weigh more cost e true s is h =
    let enough = leb-true cost s.scene.fuel is in
    let less = spent_by s.scene cost in
    let back : less.fuel + cost ≡ s.scene.fuel = omega (arith, enough) in
    behind_pays weigh (s.scene.fuel + more) (s.scene.fuel + more) nothing (perform e (record s { scene = less })) (no_more (s.scene.fuel + more)) (performed_pays weigh e (record s { scene = less }) (s.scene.fuel + more) (omega (arith, back, h)))
charged_pays weigh more cost e false s is h = omega arith

-- an effect behind a charge that the scene chooses
pub pays_charged_by : {weigh : Effect → ℕ} (cost : Scene → ℕ) (e : Effect) → ((scene : Scene) → weigh e ≤ cost scene) → Pays weigh (by_scene (λ scene. charge (cost scene)) >> perform e)
unfolding ◌>>◌ charge by_scene
pays_charged_by {weigh} cost e h = record { from = λ s. more_pays weigh s.scene.fuel (s.scene.fuel + 0) _ (no_more s.scene.fuel) (charged_pays weigh 0 (cost s.scene) e (nat_le (cost s.scene) s.scene.fuel) s refl (let most = h s.scene in omega (arith, most))) }

-- the same in a statement
pub owes_charged_by : {weigh : Effect → ℕ} (cost : Scene → ℕ) (e : Effect) → ((scene : Scene) → weigh e ≤ cost scene + 1) → Owes weigh (by_scene (λ scene. charge (cost scene)) >> perform e)
unfolding ◌>>◌ charge by_scene
owes_charged_by {weigh} cost e h = record { from = λ s. charged_pays weigh 1 (cost s.scene) e (nat_le (cost s.scene) s.scene.fuel) s refl (h s.scene) }

-- an effect behind its charge, in a statement
pub owes_charged : {weigh : Effect → ℕ} (cost : ℕ) (e : Effect) → weigh e ≤ cost + 1 → Owes weigh (charge cost >> perform e)
unfolding ◌>>◌ charge
owes_charged {weigh} cost e h = record { from = λ s. charged_pays weigh 1 cost e (nat_le cost s.scene.fuel) s refl h }
