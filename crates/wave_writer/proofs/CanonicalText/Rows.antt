-- The texts of short values in turn, each before a comma, at the end of a room.
use Rattle.std.proofs.Common.{ℕ, ◌≡◌, ◌<◌, inl, inr, ◌≤◌, ◌+◌, ◌-◌, ◌^◌, List, [], ◌∷◌, ◌++◌, Bool, true, false, refl, sym, ap, subst, ◌∙◌, length, take, drop, get_or, map, arith, codes, append_assoc, IsAscii, decimal}
use Rattle.std.proofs.Math.Seq.{take-add}
use Rattle.std.proofs.lemmas.Fmt.{IsAscii-decimal}
use Rattle.std.proofs.lemmas.List.{append-nil, drop_all, get_or-drop, length-drop, map-append, take_all, take-append-drop}
use Rattle.std.proofs.lemmas.Bool.{cases_Bool}
use Rattle.std.proofs.lemmas.Str.{IsUtf8-append, IsUtf8-from_ascii, IsUtf8-nil}
use Rattle.std.proofs.lemmas.Str.Ascii.{IsAscii-nil, IsAscii-cons}
use Rattle.std.specs.Str.{IsUtf8}
use Rattle.wave_wasm.specs.Keywords.{case_label, is_keyword}
use Rattle.wave_wasm.specs.Lists.{AllOf}
use Rattle.wave_writer.specs.WriterState.{Output, Appended, Refused}
use Rattle.wave_writer.specs.declared.writer.WriterError.{WriterError}
use Rattle.wave_wasm.specs.CommaParts.{with_commas}
use Rattle.std.specs.List.{list_all}
use Rattle.std.specs.Prelude.{◌&&◌, Err}
use Rattle.wave_wasm.specs.TextParts.{whole_text}
use Rattle.wave_writer.specs.Private.WriterState.{Writes}
use Rattle.wave_wasm.specs.Text.{bool_text}
use Rattle.wave_wasm.proofs.CanonicalText.Sequences.{at_end, at_item}
use Rattle.wave_writer.proofs.CanonicalText.WrittenSequences.{prefixed}
use Rattle.wave_writer.proofs.CanonicalText.WrittenParts.{Writing, start_written, writing_as, writing_more, writing_refused}

-- ---- texts that are put into a row

ascii_number : (negative : Bool) (distance : ℕ) → distance < 2 ^ 64 → IsAscii (whole_text negative distance)
ascii_number false distance h = IsAscii-decimal distance h
ascii_number true distance h = IsAscii-cons 45 (decimal distance) (omega arith) (IsAscii-decimal distance h)

pub number_utf8 : (negative : Bool) (distance : ℕ) → distance < 2 ^ 64 → IsUtf8 (whole_text negative distance)
number_utf8 negative distance h = IsUtf8-from_ascii (whole_text negative distance) (ascii_number negative distance h)

pub bool_utf8 : (b : Bool) → IsUtf8 (bool_text b)
bool_utf8 true = IsUtf8-from_ascii (codes "true") (IsAscii-cons 116 (codes "rue") (omega arith) (IsAscii-cons 114 (codes "ue") (omega arith) (IsAscii-cons 117 (codes "e") (omega arith) (IsAscii-cons 101 [] (omega arith) IsAscii-nil))))
bool_utf8 false = IsUtf8-from_ascii (codes "false") (IsAscii-cons 102 (codes "alse") (omega arith) (IsAscii-cons 97 (codes "lse") (omega arith) (IsAscii-cons 108 (codes "se") (omega arith) (IsAscii-cons 115 (codes "e") (omega arith) (IsAscii-cons 101 [] (omega arith) IsAscii-nil)))))

percent_utf8 : IsUtf8 (codes "%")
percent_utf8 = IsUtf8-from_ascii (codes "%") (IsAscii-cons 37 [] (omega arith) IsAscii-nil)

pub label_utf8 : (name : List ℕ) → IsUtf8 name → IsUtf8 (case_label name)
label_utf8 name u = elim (cases_Bool (is_keyword name)) [
  | inl t ↦ rw t (IsUtf8-append (codes "%") name percent_utf8 u)
  | inr f ↦ rw f u
]

pub comma_utf8 : (rest : List ℕ) → IsUtf8 rest → IsUtf8 (codes ", " ++ rest)
comma_utf8 rest u = IsUtf8-append (codes ", ") rest (IsUtf8-from_ascii (codes ", ") (IsAscii-cons 44 (32 ∷ []) (omega arith) (IsAscii-cons 32 [] (omega arith) IsAscii-nil))) u

-- ---- a row

-- the room from start on has the texts of the last n of the items
pub record Row {X : Type 0} (f : X → List ℕ) (P : X → Type 0) (items : List X) (n start : ℕ) (room : List ℕ) : Type 0 where
  pub within : start ≤ 368
  pub row : drop start room ≡ with_commas (map f (drop (length items - n) items))
  pub utf8 : IsUtf8 (drop start room)
  pub each : AllOf P (drop (length items - n) items)

-- none of them
pub row_start : {X : Type 0} (f : X → List ℕ) (P : X → Type 0) (items : List X) (room : List ℕ) → length room ≡ 368 → Row f P items 0 368 room
row_start f P items room long =
    let none : drop 368 room ≡ [] = drop_all 368 room (omega (arith, long)) in
    record {
      within = omega arith;
      row = none ∙ sym (at_end (λ l. with_commas (map f l)) items (length items - 0) (omega arith));
      utf8 = subst IsUtf8 (sym none) IsUtf8-nil;
      each = subst (AllOf P) (sym (at_end (λ l. l) items (length items - 0) (omega arith))) tt;
    }

-- one more before them
pub row_more : {X : Type 0} (f : X → List ℕ) (P : X → Type 0) (items : List X) (n start : ℕ) (room : List ℕ) (x : X) (next : ℕ) (new : List ℕ) → Row f P items n start room → n < length items → x ≡ get_or items (length items - 1 - n) x → P x → IsUtf8 (f x) → drop next new ≡ f x ++ (codes ", " ++ drop start room) → next ≤ start → Row f P items (n + 1) next new
row_more {X} f P items n start room x next new r lt is p u w l =
    let k : ℕ = length items - 1 - n in
    let here : k ≡ length items - (n + 1) = omega arith in
    let behind : k + 1 ≡ length items - n = omega arith in
    let begins : drop (length items - (n + 1)) items ≡ x ∷ drop (length items - n) items = ap (λ i. drop i items) (sym here) ∙ (at_item (λ z. z) items k x (omega arith) is ∙ ap (λ i. x ∷ drop i items) behind) in
    let text : drop next new ≡ with_commas (map f (x ∷ drop (length items - n) items)) = w ∙ ap (λ z. f x ++ (codes ", " ++ z)) r.row in
    record {
      within = omega (arith, r.within, l);
      row = text ∙ ap (λ z. with_commas (map f z)) (sym begins);
      utf8 = subst IsUtf8 (sym w) (IsUtf8-append (f x) (codes ", " ++ drop start room) u (comma_utf8 (drop start room) r.utf8));
      each = subst (AllOf P) (sym begins) (p, r.each);
    }

-- ---- rows that are written

-- of the items the first ones are written, each before a comma, and P holds of these
pub record Taken {X : Type 0} (f : X → List ℕ) (P : X → Type 0) (items : List X) (at : ℕ) (old now : Output) : Type 0 where
  pub within : at ≤ length items
  pub written : Appended (with_commas (map f (take at items))) old now
  pub each : AllOf P (take at items)

pub taken_none : {X : Type 0} (f : X → List ℕ) (P : X → Type 0) (items : List X) (old : Output) → Taken f P items 0 old old
taken_none f P items old = record {
  within = omega arith;
  written = record { written = sym (append-nil old.written); failures = refl };
  each = tt;
}

commas_joined : (xs ys : List (List ℕ)) → with_commas (xs ++ ys) ≡ with_commas xs ++ with_commas ys
commas_joined [] ys = refl
commas_joined (x ∷ xs) ys = ap (λ z. x ++ (codes ", " ++ z)) (commas_joined xs ys) ∙ sym (append_assoc x (codes ", " ++ with_commas xs) (with_commas ys))

all_joined : {X : Type 0} (P : X → Type 0) (xs ys : List X) → AllOf P xs → AllOf P ys → AllOf P (xs ++ ys)
all_joined P [] ys h k = k
all_joined P (x ∷ xs) ys h k = (h.0, all_joined P xs ys h.1 k)

mapped : {X : Type 0} (f : X → List ℕ) (xs ys : List X) → with_commas (map f (xs ++ ys)) ≡ with_commas (map f xs) ++ with_commas (map f ys)
mapped f xs ys = ap with_commas (map-append f xs ys) ∙ commas_joined (map f xs) (map f ys)

-- a row is written
pub taken_more : {X : Type 0} (f : X → List ℕ) (P : X → Type 0) (items : List X) (at end : ℕ) (row : List X) {old now new : Output} → Taken f P items at old now → at ≤ end → end ≤ length items → row ≡ take (end - at) (drop at items) → Appended (with_commas (map f row)) now new → AllOf P row → Taken f P items end old new
taken_more f P items at end row {old} {now} r le l is a h =
    let e : at + (end - at) ≡ end = omega arith in
    let more : take end items ≡ take at items ++ row = ap (λ n. take n items) (sym e) ∙ (take-add at (end - at) items ∙ ap (λ z. take at items ++ z) (sym is)) in
    let text : with_commas (map f (take end items)) ≡ with_commas (map f (take at items)) ++ with_commas (map f row) = ap (λ z. with_commas (map f z)) more ∙ mapped f (take at items) row in
    record {
      within = l;
      written = record {
        written = a.written ∙ (ap (λ z. z ++ with_commas (map f row)) r.written.written ∙ (append_assoc old.written (with_commas (map f (take at items))) (with_commas (map f row)) ∙ ap (λ z. old.written ++ z) (sym text)));
        failures = a.failures ∙ r.written.failures;
      };
      each = subst (AllOf P) (sym more) (all_joined P (take at items) row r.each h);
    }

-- a row is refused
pub taken_refused : {X : Type 0} (f : X → List ℕ) (P : X → Type 0) (items : List X) (at end : ℕ) (row : List X) {old now new : Output} {e : WriterError} → Taken f P items at old now → row ≡ take (end - at) (drop at items) → Refused (with_commas (map f row)) true e now new → Refused (with_commas (map f items)) true e old new
taken_refused f P items at end row {old} {now} {new} {e} r is refused =
    let behind : drop at items ≡ row ++ drop (end - at) (drop at items) = sym (take-append-drop (end - at) (drop at items)) ∙ ap (λ z. z ++ drop (end - at) (drop at items)) (sym is) in
    let whole : with_commas (map f items) ≡ with_commas (map f (take at items)) ++ (with_commas (map f row) ++ with_commas (map f (drop (end - at) (drop at items)))) = ap (λ z. with_commas (map f z)) (sym (take-append-drop at items)) ∙ (mapped f (take at items) (drop at items) ∙ ap (λ z. with_commas (map f (take at items)) ++ z) (ap (λ z. with_commas (map f z)) behind ∙ mapped f row (drop (end - at) (drop at items)))) in
    let w : Writing (with_commas (map f items)) (with_commas (map f row) ++ with_commas (map f (drop (end - at) (drop at items)))) old now = start_written _ whole r.written in
    (writing_refused _ w (λ h. h) refused).err

-- ---- rows before a last item

-- what is left behind the first n items
left_is : {X : Type 0} (ys : List X) (n : ℕ) → take (length ys - n) (drop n ys) ≡ drop n ys
left_is ys n = take_all (length ys - n) (drop n ys) (omega (arith, length-drop n ys))

rows_prefixed : (ss ts : List (List ℕ)) (last : List ℕ) → prefixed (ss ++ ts) last ≡ with_commas ss ++ prefixed ts last
rows_prefixed [] ts last = refl
rows_prefixed (s ∷ ss) ts last = ap (λ z. s ++ (codes ", " ++ z)) (rows_prefixed ss ts last) ∙ sym (append_assoc s (codes ", " ++ with_commas ss) (prefixed ts last))

-- of the texts before the last one the first n are written
pub writing_rest : {X : Type 0} (f : X → List ℕ) (ys : List X) (n : ℕ) (last close : List ℕ) {whole : List ℕ} {old now new : Output} → Writing whole (prefixed (map f ys) last ++ close) old now → Appended (with_commas (map f (take n ys))) now new → Writing whole (prefixed (map f (take (length ys - n) (drop n ys))) last ++ close) old new
writing_rest f ys n last close w a =
    let split : map f ys ≡ map f (take n ys) ++ map f (drop n ys) = ap (map f) (sym (take-append-drop n ys)) ∙ map-append f (take n ys) (drop n ys) in
    let rest = prefixed (map f (drop n ys)) last in
    let begins = ap (λ z. prefixed z last ++ close) split ∙ (ap (λ z. z ++ close) (rows_prefixed (map f (take n ys)) (map f (drop n ys)) last) ∙ append_assoc (with_commas (map f (take n ys))) rest close) in
    writing_as (ap (λ z. prefixed (map f z) last ++ close) (sym (left_is ys n))) (writing_more (writing_as begins w) a)

-- a row of them is refused
pub refused_rows : {X : Type 0} (f : X → List ℕ) (ys : List X) (last close : List ℕ) {whole : List ℕ} {old now new : Output} {all : Bool} {e : WriterError} → Writing whole (prefixed (map f ys) last ++ close) old now → Refused (with_commas (map f ys)) true e now new → Writes whole all (Err e) old new
refused_rows f ys last close w r =
    let begins = ap (λ z. prefixed z last ++ close) (sym (append-nil (map f ys))) ∙ (ap (λ z. z ++ close) (rows_prefixed (map f ys) [] last) ∙ append_assoc (with_commas (map f ys)) last close) in
    writing_refused (last ++ close) (writing_as begins w) (λ h. cc) r

all_of_first : {X : Type 0} (ok : X → Bool) (xs ys : List X) → AllOf (λ x. ok x ≡ true) xs → list_all ok ys ≡ list_all ok (xs ++ ys)
all_of_first ok [] ys h = refl
all_of_first ok (x ∷ xs) ys h = all_of_first ok xs ys h.1 ∙ ap (λ b. b && list_all ok (xs ++ ys)) (sym h.0)

-- the others decide whether all can be written
pub rest_writable : {X : Type 0} (ok : X → Bool) (ys : List X) (n : ℕ) → AllOf (λ x. ok x ≡ true) (take n ys) → list_all ok (take (length ys - n) (drop n ys)) ≡ list_all ok ys
rest_writable ok ys n h = ap (list_all ok) (left_is ys n) ∙ (all_of_first ok (take n ys) (drop n ys) h ∙ ap (list_all ok) (take-append-drop n ys))

-- an item of the others, by its place among all
pub rest_item : {X : Type 0} (ys : List X) (n i : ℕ) (x : X) → i < length (take (length ys - n) (drop n ys)) → x ≡ get_or (take (length ys - n) (drop n ys)) i x → (n + i < length ys) × (x ≡ get_or ys (n + i) x)
rest_item ys n i x lt is = (omega (arith, ap length (left_is ys n), length-drop n ys), is ∙ (ap (λ l. get_or l i x) (left_is ys n) ∙ get_or-drop n ys i x))
