-- A text as a whole: what is refused of its tokens is refused of the text, at its place.
use Rattle.std.proofs.Common.{◌≡◌, ℕ, zero, suc, ◌-◌, ◌≤◌, ◌<◌, List, [], ◌∷◌, ◌++◌, inl, inr, Some, None, refl, sym, ap, subst, ◌∙◌, arith, length, take, drop, length-append, Result, Err, IfErr}
use Rattle.std.proofs.Math.Seq.{drop-append_seam}
use Rattle.std.proofs.lemmas.List.{take-append-drop}
use Rattle.std.specs.Prelude.{◌⊎◌}
use Rattle.wave_wasm.specs.Types.{TypeTree}
use Rattle.wave_type.specs.declared.error.TypeErrorKind.{TypeErrorKind}
use Rattle.wave_type.specs.declared.error.TypeErrorKind.TheVariants as kinds
use Rattle.wave_type.specs.declared.error.TypeErrorKind.TheVariants.{OutOfMemory, UnexpectedToken, UnexpectedEnd}
use Rattle.wave_type.specs.declared.tokens.Token.{Token as Piece}
use Rattle.wave_type.specs.FunctionSpelling.{SpellsFunction, IsNoFunctionWithin}
use Rattle.wave_type.specs.FunctionType.{FunctionType}
use Rattle.wave_type.specs.TypeErrors.{TypeRefusal}
use Rattle.wave_type.specs.TypeFaults.{Expectation, payloads_expected, payload_expected, results_expected, Step, takes, passes, refuses, step, refused, expected_of_type, expected_of_function}
use Rattle.wave_type.specs.TypeItems.{Item, texts_of_items, AreItems, IsFaultOf, for_memory}
use Rattle.wave_type.specs.TypeSpelling.{Tokens, IsTokenizedTo, Spells, IsNoTypeWithin, levels_of}
use Rattle.wave_type.specs.Private.FunctionReading.{function_read}
use Rattle.wave_type.specs.Private.TypeReading.{type_read}
use Rattle.wave_type.specs.Private.TypeTokens.{texts_of, items_of, Fails, IsRefusal, IsRefusalAt}
use Rattle.wave_type.proofs.TypeFaults.TokenSteps.{by_step}
use Rattle.wave_type.proofs.TypeFaults.SpelledIsTaken.{type_runs, read_runs, function_runs, function_read_runs}
use Rattle.wave_type.proofs.TypeReading.Complete.{low}
use Rattle.wave_type.proofs.TypeReading.TextTokens.{one_cut, items_cut, texts_of_kept}
use Rattle.std.specs.Prelude.{nat_lt}
use Rattle.wave_type.specs.FunctionSpelling.{levels_of_function}

-- ---- what is left begins with the refused token

-- the tokens end with what is left
abbrev pub EndsWith : Tokens → Tokens → Type 0
EndsWith ts left = (prefix : Tokens) × (ts ≡ prefix ++ left)

ended_left : (expectations : List Expectation) (kind : TypeErrorKind) (left : Tokens) → refused [] expectations ≡ Some (kind, left) → EndsWith [] left
ended_left [] kind left e = absurd (cc)
ended_left (payloads_expected n ∷ expectations) kind left e = ended_left expectations kind left e
ended_left (payload_expected n ∷ expectations) kind left e = ended_left expectations kind left e
ended_left (results_expected n ∷ expectations) kind left e = ended_left expectations kind left e
ended_left (expected ∷ expectations) kind left e = let pair : ◌≡◌ {A = TypeErrorKind × Tokens} (UnexpectedEnd, []) (kind, left) = cc in ([], λ i. (pair i).1)

module _ (t : List ℕ) (ts left : Tokens) (kind : TypeErrorKind) (more : (expectations : List Expectation) → refused ts expectations ≡ Some (kind, left) → EndsWith ts left) where
  left_by : (expected : Expectation) (expectations : List Expectation) (s : Step) → step expected t ≡ s → (refused (t ∷ ts) expectations ≡ Some (kind, left) → EndsWith (t ∷ ts) left) → refused (t ∷ ts) (expected ∷ expectations) ≡ Some (kind, left) → EndsWith (t ∷ ts) left
  left_by expected expectations (takes those) h passed e =
      let below = more (those ++ expectations) (sym (by_step t ts expected expectations (takes those) h) ∙ e) in
      (t ∷ below.0, ap (λ l. t ∷ l) below.1)
  left_by expected expectations passes h passed e = passed (sym (by_step t ts expected expectations passes h) ∙ e)
  left_by expected expectations (refuses k) h passed e =
      let pair : ◌≡◌ {A = TypeErrorKind × Tokens} (k, t ∷ ts) (kind, left) = cc (by_step t ts expected expectations (refuses k) h) in
      ([], λ i. (pair i).1)

  left_at : (expectations : List Expectation) → refused (t ∷ ts) expectations ≡ Some (kind, left) → EndsWith (t ∷ ts) left
  left_at [] e = let pair : ◌≡◌ {A = TypeErrorKind × Tokens} (UnexpectedToken, t ∷ ts) (kind, left) = cc in ([], λ i. (pair i).1)
  left_at (expected ∷ expectations) e = left_by expected expectations (step expected t) refl (left_at expectations) e

pub is_left : (ts : Tokens) (expectations : List Expectation) (kind : TypeErrorKind) (left : Tokens) → refused ts expectations ≡ Some (kind, left) → EndsWith ts left
is_left [] expectations kind left e = ended_left expectations kind left e
is_left (t ∷ ts) expectations kind left e = left_at t ts left kind (λ expectations. is_left ts expectations kind left) expectations e

drop_prefix : (prefix left : Tokens) → drop (length (prefix ++ left) - length left) (prefix ++ left) ≡ left
drop_prefix prefix left =
    let size : length (prefix ++ left) - length left ≡ length prefix = omega (arith, length-append prefix left) in
    ap (λ n. drop n (prefix ++ left)) size ∙ drop-append_seam prefix left

-- as many tokens as texts
kept_count : (tokens : List Piece) → length (texts_of tokens) ≡ length tokens
kept_count [] = refl
kept_count (t ∷ tokens) = ap suc (kept_count tokens)

texts_drop : (n : ℕ) (items : List Item) → texts_of_items (drop n items) ≡ drop n (texts_of_items items)
texts_drop zero items = refl
texts_drop (suc n) [] = refl
texts_drop (suc n) (i ∷ items) = texts_drop n items

-- what is left of the tokens, and of the items
left_of : (tokens : List Piece) (left : Tokens) → EndsWith (texts_of tokens) left → texts_of_items (drop (length tokens - length left) (items_of tokens)) ≡ left
left_of tokens left (prefix, e) =
    let size : length tokens ≡ length (prefix ++ left) = sym (kept_count tokens) ∙ ap length e in
    texts_drop (length tokens - length left) (items_of tokens)
    ∙ (ap (drop (length tokens - length left)) (texts_of_kept tokens ∙ e)
    ∙ (ap (λ n. drop (n - length left) (prefix ++ left)) size ∙ drop_prefix prefix left))

memory_or : (kind : TypeErrorKind) → (kind ≡ OutOfMemory) ⊎ (kind ≡ OutOfMemory → ⊥)
memory_or kinds.UnexpectedToken = inr (λ e. cc)
memory_or kinds.UnexpectedEnd = inr (λ e. cc)
memory_or kinds.InvalidToken = inr (λ e. cc)
memory_or kinds.DuplicateName = inr (λ e. cc)
memory_or kinds.InvalidKeyType = inr (λ e. cc)
memory_or kinds.InvalidCount = inr (λ e. cc)
memory_or kinds.NestingTooDeep = inr (λ e. cc)
memory_or kinds.OutOfMemory = inl refl

-- a text of these tokens, which are the reader's
module _ (text : List ℕ) (tokens : List Piece) (ts : Tokens) (are : AreItems text 0 (items_of tokens)) (same : ts ≡ texts_of tokens) where
  cut : IsTokenizedTo text (texts_of tokens)
  cut = subst (IsTokenizedTo text) (texts_of_kept tokens) (items_cut text 0 (items_of tokens) are)

  -- it spells what they spell
  pub text_spells : (P : Tokens → Type 0) → P ts → (us : Tokens) × IsTokenizedTo text us × P us
  text_spells P h = (texts_of tokens, cut, subst P same h)

  -- and nothing else
  only_spells : (P : Tokens → Type 0) → (us : Tokens) × IsTokenizedTo text us × P us → P ts
  only_spells P h = subst P (one_cut h.0 (texts_of tokens) text h.1 cut ∙ sym same) h.2

  module _ (kind : TypeErrorKind) (left : Tokens) (n : ℕ) (e : TypeRefusal) (count : n ≡ length left) (stands : IsRefusalAt text (drop (length tokens - n) (items_of tokens)) kind e) where
    module _ (expectations : List Expectation) where
      standing : refused ts expectations ≡ Some (kind, left) → (kind ≡ OutOfMemory → ⊥) → IsFaultOf expectations text e
      standing r other =
          let items = items_of tokens in
          let whole : take (length tokens - n) items ++ drop (length tokens - n) items ≡ items = take-append-drop (length tokens - n) items in
          let kept : refused (texts_of tokens) expectations ≡ Some (kind, left) = ap (λ us. refused us expectations) (sym same) ∙ r in
          let rest : texts_of_items (drop (length tokens - n) items) ≡ left = ap (λ k. texts_of_items (drop (length tokens - k) items)) count ∙ left_of tokens left (is_left (texts_of tokens) expectations kind left kept) in (
            take (length tokens - n) items,
            drop (length tokens - n) items,
            kind,
            subst (AreItems text 0) (sym whole) are,
            ap (λ l. refused (texts_of_items l) expectations) whole ∙ (ap (λ us. refused us expectations) (texts_of_kept tokens) ∙ (kept ∙ ap (λ us. Some (kind, us)) (sym rest))),
            stands.stands other,
          )

      -- it is refused as they are
      pub text_fault : IsRefusal expectations ts kind left → (e ≡ for_memory) ⊎ IsFaultOf expectations text e
      text_fault (inl memory) = inl (stands.memory memory)
      text_fault (inr r) = elim (memory_or kind) as (λ _. (e ≡ for_memory) ⊎ IsFaultOf expectations text e) [ inl memory ↦ inl (stands.memory memory) | inr other ↦ inr (standing r other) ]

    -- so it spells nothing within this number of levels that isn't refused
    module _ (limit : ℕ) where
      module _ {A : Type 0} (P : A → Tokens → Type 0) (levels : A → ℕ) (expectations : List Expectation) (runs : (a : A) (us : Tokens) → levels a ≤ limit → P a us → refused us expectations ≡ None) where
        none_spelled : IsRefusal expectations ts kind left → (e.kind ≡ OutOfMemory) ⊎ ((a : A) → (us : Tokens) × IsTokenizedTo text us × P a us → limit < levels a)
        none_spelled (inl memory) = inl (ap (λ z. z.kind) (stands.memory memory))
        none_spelled (inr r) =
            inr (λ a h. low limit (levels a) (nat_lt limit (levels a)) refl (λ le. let wrong : None ≡ Some (kind, left) = sym (runs a ts le (only_spells (P a) h)) ∙ r in cc))

      pub no_type_of : IsRefusal (expected_of_type limit) ts kind left → IsNoTypeWithin limit text e.kind
      no_type_of = none_spelled (λ T us. Spells T us []) levels_of (expected_of_type limit) (λ T us le h. type_runs limit T us [] le h [])

      pub no_function_of : IsRefusal (expected_of_function limit) ts kind left → IsNoFunctionWithin limit text e.kind
      no_function_of = none_spelled SpellsFunction levels_of_function (expected_of_function limit) (function_runs limit)

-- ---- the tokens as a whole

-- what holds of the refusal holds of the answer
pub err_if : {A E : Type 0} (P : E → Type 0) (r : Result A E) (e : E) → r ≡ Err e → P e → IfErr r P
err_if P r e same h = subst (λ z. IfErr z P) (sym same) h

-- what fails whatever is expected after it fails where nothing is
pub fails_alone : (expected : List Expectation → List Expectation) (ts left : Tokens) (kind : TypeErrorKind) → Fails expected ts kind left → IsRefusal (expected []) ts kind left
fails_alone expected ts left kind (inl e) = inl e
fails_alone expected ts left kind (inr h) = inr (h [])

-- tokens that are left are refused
rest_refused : (r : Tokens) → (length r ≡ 0 → ⊥) → refused r [] ≡ Some (UnexpectedToken, r)
rest_refused [] some = absurd (some refl)
rest_refused (t ∷ r) some = refl

pub type_left : (n : ℕ) (ts r : Tokens) (T : TypeTree) → type_read n ts ≡ Some (T, r) → (length r ≡ 0 → ⊥) → IsRefusal (expected_of_type n) ts UnexpectedToken r
type_left n ts r T e some = inr (read_runs n ts r T e [] ∙ rest_refused r some)

pub function_is_left : (n : ℕ) (ts r : Tokens) (f : FunctionType) → function_read (type_read n) ts ≡ Some (f, r) → (length r ≡ 0 → ⊥) → IsRefusal (expected_of_function n) ts UnexpectedToken r
function_is_left n ts r f e some = inr (function_read_runs n ts r f e ∙ rest_refused r some)
