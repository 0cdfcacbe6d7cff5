-- A handle by value, whatever its box holds: two machine values, and what its pointer owns.
use Rattle.std.proofs.Common.{◌≡◌, ℕ, List, [], ◌∷◌, ◌++◌, refl, sym, subst}
use seplogic.Ra.Ura.{Ura}
use base.Logic.{via, snd∗, guard_i, never_e}
use base.Stored.{Coded}
use base.Fml.{Fml, Lft, ftrue, ffalse, fsep, fex}
use base.Shift.{Keyless}
use contract.Monad.{fact_use}
use mir.Raw.{raw as bare}
use mir.Syntax.{Sym, impl, tnil, dnil}
use mir.Val.{Val, vstruct, vcons, vnil, of_list}
use types.Logic.{Logic, sem}
use types.Kit.{Item, Goal, Seq, Step, step, ‵, ◌$◌, move, drop, fsplit, fjoin, fpick, fpack, feq_i, feq_l, use1, given, learn}
use denote.RattleType.{RattleType, Valss}
use denote.Builtin.{RawPtr}
use denote.Exit.{hidden, under}
use denote.RawPtr.{Ptr, block_ptr, null_ptr, ptr_val, Testable}
use denote.Memory.{lone}
use denote.Steps.{nothing}
use denote.Param.{layout}
use denote.Param.Send.{IsSend, AllSend, owning_send, struct_send, sendable}
use denote.Struct.Field.{Field, RawPtr-field, rows}
use denote.Struct.Struct.{Shape, within, exits_of}
use denote.Struct.Values.{intos}
use denote.Struct.Owning.{Owning, fields, shape, to, row}
use Rattle.core.proofs.alloc.Calls.{Al, handle_tells}
use Rattle.core.proofs.cell.Inside.{Good}
use Rattle.std_alloc.proofs.SendSync.{quiet, lies}
use Rattle.std_heap.specs.contracts.Global as Heap
use Rattle.std_heap.specs.contracts.GlobalAllocator.TheImpl.{ghosts, dict}
use Rattle.std_heap.proofs.Global.TheLaws as heap
use Rattle.std_heap.proofs.Global.TheSendSync as global
use Rattle.std.proofs.Crossing as crossing
use Rattle.std.proofs.GlobalToken.{dealloc_token-Testable}
use Rattle.std.specs.Ptr.{points_to}
use Rattle.std.specs.Global.{Global}
use Rattle.std.specs.declared.option.Option.{Option}
use Rattle.std.specs.declared.option.Option.TheVariants.{None, Some}
use Rattle.hulayban_c.specs.Handles.{handle_owns}
use Rattle.hulayban_c.specs.contracts.unboxed.Unboxed as unboxed

abbrev Parts : RattleType → Type 0
Parts X = Ptr × (Global × Option X.Denot)

-- a type of handles: its name, what its boxes hold, and its values, which are a pointer, an allocator and what is kept
pub record Kind : Type 2 where
  pub name : Sym
  pub inner : RattleType
  pub D : Type 0
  pub parts : D → Parts inner
  pub made : Parts inner → D
  pub same : (q : Parts inner) → parts (made q) ≡ q
  pub coded : Coded D
  pub shr_at : D → ℕ → ℕ → Lft → Fml

abbrev pub Z : RattleType
Z = Heap.the_row

abbrev pub both : Val → Val → Val
both v w = vstruct (vcons v (vcons w vnil))

abbrev two_words : Shape
two_words = record { name = []; args = []; types = []; fields = RawPtr ∷ Z ∷ [] }

-- a pointer and an allocator at these machine values, and F
abbrev pub two : Ptr → Global → Fml → List Val → Fml
two p a F vs = fsep (fex (Valss two_words.fields) (within two_words (p, (a, tt)) vs)) F

module _ {M : Type 1} {𝓤 : Ura M} {𝓛 : Logic 𝓤} {K : Type 0} {Γ : List (Item 𝓤)} {G : Goal 𝓤 𝓛.H} where
  pub two_out : K → (p : Ptr) (a : Global) (F : Fml) (vs : List Val)
      → ((h : Val) → vs ≡ both (ptr_val p) h ∷ [] → Good (layout Z) h → Seq K 𝓛 (‵ F ∷ ‵ (Z.own_val a (h ∷ [])) ∷ Γ) G) → Seq K 𝓛 (‵ (two p a F vs) ∷ Γ) G
  two_out t p a F vs k = let al : Al = record { row = Z; laws = heap.the_row_laws; g = ghosts; d = dict; drops = impl [] tnil dnil } in
      fsplit t $ fpick t (λ vss. fsplit t $ feq_l t (λ ev. fsplit t $ feq_l t (λ ep. fsplit t $ handle_tells al t a vss.1.0 (λ h ea fits.
      move t (1 ∷ []) $ drop t $ move t (1 ∷ []) $
      k h (subst (λ (ws : List Val). vs ≡ vstruct (of_list (ptr_val p ∷ (ws ++ []))) ∷ []) ea
      (subst (λ (ps : List Val). vs ≡ vstruct (of_list (ps ++ (vss.1.0 ++ []))) ∷ []) ep ev)) fits))))

  pub two_in : K → (p : Ptr) (a : Global) (F : Fml) (h : Val) → Step K 𝓛 (‵ (two p a F (both (ptr_val p) h ∷ [])) ∷ Γ) G (‵ F ∷ ‵ (Z.own_val a (h ∷ [])) ∷ Γ) G
  two_in t p a F h = step (λ s. let v : Val = both (ptr_val p) h in
      nothing t $ move t (2 ∷ 0 ∷ []) $ fjoin t $ feq_i t (List Val) (ptr_val p ∷ []) (ptr_val p ∷ []) refl $ fjoin t $
      feq_i t (List Val) (v ∷ []) (v ∷ []) refl $ fjoin t $
      fpack t (Valss two_words.fields) (within two_words (p, (a, tt)) (v ∷ [])) (ptr_val p ∷ [], (h ∷ [], tt)) $ fjoin t $ s)

module _ (C : Kind) where
  abbrev pub X : Type 0
  X = C.inner.Denot

  abbrev pub at : C.D → Ptr
  at d = (C.parts d).0

  abbrev pub alloc : C.D → Global
  alloc d = (C.parts d).1.0

  abbrev pub kept : C.D → Option X
  kept d = (C.parts d).1.1

  abbrev pub Unboxed : RattleType
  Unboxed = unboxed.the_row C.inner Z ghosts

  abbrev pub owned : Parts C.inner → Fml
  owned q = handle_owns C.inner q.1.0 q.0 q.1.1

  abbrev data_fields : List Field
  data_fields = RawPtr-field ∷ Heap.the_field ∷ []

  abbrev handle : Owning
  handle = record {
    name = C.name;
    args = [];
    types = [];
    parts = data_fields;
    D = C.D;
    as_values = λ d. (at d, (alloc d, tt));
    coded = C.coded;
    heap = λ d. owned (C.parts d);
    exit = λ k. hidden (under (λ d. intos data_fields (at d, (alloc d, tt))) (exits_of k (rows data_fields)));
    shr_at = C.shr_at;
  }

  abbrev pub Handle : RattleType
  Handle = row handle

module _ (C : Kind) {M : Type 1} {𝓤 : Ura M} {𝓛 : Logic 𝓤} {K : Type 0} {Γ : List (Item 𝓤)} {G : Goal 𝓤 𝓛.H} where
  pub handle_in : K → (q : Parts C.inner) (h : Val)
      → Step K 𝓛 (‵ ((Handle C).own_val (C.made q) (both (ptr_val q.0) h ∷ [])) ∷ Γ) G (‵ (owned C q) ∷ ‵ (Z.own_val q.1.0 (h ∷ [])) ∷ Γ) G
  handle_in t q h = let Γ' : List (Item 𝓤) = ‵ (owned C q) ∷ ‵ (Z.own_val q.1.0 (h ∷ [])) ∷ Γ in
      subst (λ (r : Parts C.inner). Step K 𝓛 (‵ (two r.0 r.1.0 (owned C r) (both (ptr_val q.0) h ∷ [])) ∷ Γ) G Γ' G) (sym (C.same q))
      (two_in t q.0 q.1.0 (owned C q) h)

  nothing_there : K → Seq K 𝓛 (‵ ffalse ∷ Γ) G
  nothing_there t = use1 𝓛 (given ⊥ (‵ ftrue)) (never_e 𝓤 _) $ learn t (λ z. absurd z)

  -- by the pointer's form: at null nothing is owned and nothing is kept, and at a block the box of what is kept, whose pointer may be compared with null
  pub box_or_null : K → Unit {0} → (a : Global) (p : Ptr) (k : Option (X C))
      → (p ≡ null_ptr → k ≡ None → Seq K 𝓛 (‵ ftrue ∷ Γ) G)
      → ((b o : ℕ) (x : X C) → p ≡ block_ptr b o → k ≡ Some x → Testable (block_ptr b o) → Seq K 𝓛 (‵ (owned C (block_ptr b o, (a, Some x))) ∷ Γ) G)
      → Seq K 𝓛 (‵ (owned C (p, (a, k))) ∷ Γ) G
  box_or_null t u a null_ptr None none one = none refl refl
  box_or_null t u a null_ptr (Some x) none one = nothing_there t
  box_or_null t u a (block_ptr b o) None none one = nothing_there t
  box_or_null t u a (block_ptr b o) (Some x) none one =
      let p : Ptr = block_ptr b o in let B : Fml = owned C (p, (a, Some x)) in
      use1 𝓛 (given (Testable p) (‵ B))
      (fact_use 𝓤 (Testable p) (via 𝓤 _ (snd∗ 𝓤 (sem 𝓛 (points_to C.inner p x))
      (sem 𝓛 (ghosts.dealloc_token a (bare (lone C.inner.mir)) p))) (dealloc_token-Testable 𝓛 a (bare (lone C.inner.mir)) p))
      (guard_i 𝓤 (Testable p) (sem 𝓛 B))) $ learn t (λ c. one b o x refl refl c)

-- a handle says the same to every thread, where what its box holds does
module _ (C : Kind) (inner : IsSend C.inner) where
  owns_keyless : (a : Global) (p : Ptr) (k : Option (X C)) → Keyless (owned C (p, (a, k)))
  owns_keyless a null_ptr None = tt
  owns_keyless a null_ptr (Some x) = tt
  owns_keyless a (block_ptr b o) None = tt
  owns_keyless a (block_ptr b o) (Some x) = (lies C.inner inner (block_ptr b o) x, crossing.frees.frees a (bare (lone C.inner.mir)) (block_ptr b o))

  pub handle_send : IsSend (Handle C)
  handle_send =
      let all : AllSend (fields (handle C)) = (search sendable, (global.the_field_send, tt)) in
      owning_send (handle C) all (λ d. owns_keyless (alloc C d) (at C d) (kept C d))
      (λ k. quiet (to (handle C)) (exits_of k (fields (handle C))) ((struct_send (shape (handle C)) all).leaving k))
