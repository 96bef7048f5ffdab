-- The canonical text of a char or a string is one token, which means that char or string.
use Rattle.std.proofs.Common.{◌≡◌, ℕ, true, List, [], ◌∷◌, ◌++◌, inl, inr, refl, sym, ap, subst, ◌∙◌}
use Rattle.wave_wasm.specs.Lists.{AllOf}
use Rattle.std.specs.Prelude.{encode_utf8, encode_utf8_all}
use Rattle.std.specs.Char.{IsScalar}
use Rattle.std.specs.List.{flat_map}
use Rattle.std.specs.Str.{chars, IsUtf8}
use Rattle.std.proofs.lemmas.Bool.{ltb-true, and_parts}
use lib.Utf8.{scalar, scalars}
use Rattle.std.proofs.lemmas.List.{append-nil}
use Rattle.std.proofs.lemmas.Str.{encodes-append, encodes-chars, scalars-chars, encode_ascii}
use Rattle.wave_wasm.specs.Types as type
use Rattle.wave_wasm.specs.Types.{Simple}
use Rattle.wave_wasm.specs.Values as value
use Rattle.wave_wasm.specs.Values.{Leaf, leaf_type, IsSound}
use Rattle.wave_wasm.specs.HasType.{IsLeafOf}
use Rattle.wave_wasm.specs.Text.{escaped, quoted_char, quoted}
use Rattle.wave_lex.specs.declared.lex.Token.TheVariants as class
use Rattle.wave_lex.specs.Regex as regex
use Rattle.wave_lex.specs.Regex.{Regex, Matches, except, alt}
use Rattle.wave_lex.specs.Derive.{nullable}
use Rattle.wave_lex.specs.Strings.{CharMeans, Decodes}
use Rattle.wave_lex.specs.Tokens as shapes
use Rattle.wave_lex.specs.Tokens.{escape}
use Rattle.wave_lex.proofs.StringDecoding.OneMeaning.{plain_from, escape_from}
use Rattle.wave_lex.proofs.StringDecoding.Parts.{AllPlain}
use Rattle.wave_lex.proofs.Machines.ClosedShapes.{character_rests, character_closed, string_rests, string_closed}
use Rattle.wave_lex.proofs.LongestPrefix.ByComputing.{ascii_spelled}
use Rattle.wave_lex.proofs.Tokenization.TokenEnds.{none_follows}
use Rattle.wave_grammar.specs.Token as token
use Rattle.wave_grammar.proofs.RoundTrip.Tokens.{stops, NoStopAfter, stopped_cut}
use Rattle.wave_grammar.proofs.RoundTrip.Escapes.{IsForm, is_form, all_plain}
use Rattle.wave_grammar.proofs.RoundTrip.Leaves.{IsWritten, bool_written, whole_written}

-- ---- no mark goes on with a char or a string

pub character_ends : (cs : List ℕ) → Matches shapes.character cs → NoStopAfter class.Char cs
character_ends = none_follows shapes.character character_rests character_closed refl stops refl

pub string_ends : (cs : List ℕ) → Matches shapes.string cs → NoStopAfter class.String cs
string_ends = none_follows shapes.string string_rests string_closed refl stops refl

-- ---- quotes

-- a text between two bytes of ASCII
between : (q : ℕ) (is x : List ℕ) → encode_utf8 q ≡ q ∷ [] → encode_utf8_all is ≡ x → encode_utf8_all (q ∷ (is ++ q ∷ [])) ≡ q ∷ (x ++ q ∷ [])
between q is x one e =
    let end : encode_utf8_all (q ∷ []) ≡ q ∷ [] = append-nil (encode_utf8 q) ∙ one in
    ap (λ (z : List ℕ). z ++ encode_utf8_all (is ++ q ∷ [])) one
    ∙ ap (λ (z : List ℕ). q ∷ z) (encodes-append is (q ∷ []) ∙ (ap (λ (z : List ℕ). z ++ encode_utf8_all (q ∷ [])) e ∙ ap (λ (z : List ℕ). x ++ z) end))

-- ---- chars

-- a char's text is one token
char_written : (c : ℕ) → IsScalar c → IsWritten type.char (value.char c)
char_written c scalar = by_form (is_form c scalar)
  where
    written : (is : List ℕ) → encode_utf8_all is ≡ escaped c → Matches (alt shapes.plain escape) is → CharMeans (quoted_char c) c → IsWritten type.char (value.char c)
    written is e h means =
        let shaped : Matches shapes.character (39 ∷ (is ++ 39 ∷ [])) = (39 ∷ [], is ++ 39 ∷ [], refl, (39, refl, refl), (is, 39 ∷ [], refl, h, (39, refl, refl))) in (
          token.char (quoted_char c),
          (quoted_char c, c, refl, means, refl),
          λ r rest s cut. stopped_cut class.Char (39 ∷ (is ++ 39 ∷ [])) (quoted_char c) r _ (between 39 is (escaped c) (encode_ascii 39 (ltb-true 39 128 refl)) e) shaped (character_ends _ shaped) s cut,
        )

    by_form : IsForm c (escaped c) → IsWritten type.char (value.char c)
    by_form (inl (n, single, double, e)) =
        written (c ∷ []) (append-nil (encode_utf8 c) ∙ sym e) (inl (c, refl, single)) (escaped c, refl, scalar, inl (n, e))
    by_form (inr (is, shaped, ascii)) =
        written (escaped c) (ascii_spelled (escaped c) ascii) (inr shaped) (escaped c, refl, scalar, inr is)

-- ---- strings

-- bytes other than `\` decode to themselves
plain_decodes : (bs s t : List ℕ) → AllPlain bs → Decodes s t → Decodes (bs ++ s) (bs ++ t)
plain_decodes [] s t h d = d
plain_decodes (b ∷ bs) s t h d = plain_from b (bs ++ s) (b ∷ (bs ++ t)) h.0 (bs ++ t, refl, plain_decodes bs s t h.1 d)

-- what stands in the quotes of a string
abbrev inside : Regex
inside = alt (except (92 ∷ 34 ∷ 10 ∷ [])) escape

-- the bytes x are texts of the inside of a string, and decode to the scalars cs
record IsInside (cs x : List ℕ) : Type 0 where
  parts : List (List ℕ)
  spelled : encode_utf8_all (regex.joined parts) ≡ x
  shaped : AllOf (Matches inside) parts
  decodes : Decodes x (encode_utf8_all cs)

written_inside : (cs : List ℕ) → scalars cs ≡ true → IsInside cs (flat_map escaped cs)
written_inside [] h = record { parts = []; spelled = refl; shaped = tt; decodes = ([], (refl, refl)) }
written_inside (c ∷ cs) h =
    let k : (scalar c ≡ true) × (scalars cs ≡ true) = and_parts _ _ h in
    by_form (is_form c k.0) (written_inside cs k.1)
  where
    more : (is x : List ℕ) → encode_utf8_all is ≡ escaped c → Matches inside is → Decodes (escaped c ++ flat_map escaped cs) (encode_utf8_all (c ∷ cs)) → IsInside cs (flat_map escaped cs)
        → IsInside (c ∷ cs) (flat_map escaped (c ∷ cs))
    more is x e shape decodes w = record {
      parts = is ∷ w.parts;
      spelled = encodes-append is (regex.joined w.parts) ∙ (ap (λ (z : List ℕ). z ++ encode_utf8_all (regex.joined w.parts)) e ∙ ap (λ (z : List ℕ). escaped c ++ z) w.spelled);
      shaped = (shape, w.shaped);
      decodes = decodes;
    }

    by_form : IsForm c (escaped c) → IsInside cs (flat_map escaped cs) → IsInside (c ∷ cs) (flat_map escaped (c ∷ cs))
    by_form (inl (n, single, double, e)) w =
        more (c ∷ []) [] (append-nil (encode_utf8 c) ∙ sym e) (inl (c, refl, double))
        (subst (λ (z : List ℕ). Decodes (z ++ flat_map escaped cs) (encode_utf8_all (c ∷ cs))) (sym e) (plain_decodes (encode_utf8 c) (flat_map escaped cs) (encode_utf8_all cs) (all_plain c n) w.decodes)) w
    by_form (inr (is, shaped, ascii)) w =
        more (escaped c) [] (ascii_spelled (escaped c) ascii) (inr shaped) (escape_from (escaped c) (flat_map escaped cs) (encode_utf8_all (c ∷ cs)) c is (encode_utf8_all cs, refl, w.decodes)) w

-- a string's text is one token
string_written : (s : List ℕ) → IsUtf8 s → IsWritten type.string (value.string s)
string_written s u =
    let w = written_inside (chars s) (scalars-chars s u) in
    let x : List ℕ = flat_map escaped (chars s) in
    let shaped : Matches shapes.string (34 ∷ (regex.joined w.parts ++ 34 ∷ [])) = (34 ∷ [], regex.joined w.parts ++ 34 ∷ [], refl, (34, refl, refl), (regex.joined w.parts, 34 ∷ [], refl, (w.parts, refl, w.shaped), (34, refl, refl))) in (
      token.string (quoted s),
      (quoted s, s, inl (refl, (flat_map escaped (chars s), refl, subst (λ (z : List ℕ). Decodes (flat_map escaped (chars s)) z) (encodes-chars s u) w.decodes)), refl),
      λ r rest e cut. stopped_cut class.String (34 ∷ (regex.joined w.parts ++ 34 ∷ [])) (quoted s) r _ (between 34 (regex.joined w.parts) (flat_map escaped (chars s)) (encode_ascii 34 (ltb-true 34 128 refl)) w.spelled) shaped (string_ends _ shaped) e cut,
    )

-- ---- any value of one token

sound_written : (one : Leaf) → IsSound one → IsWritten (leaf_type one) one
sound_written (value.bool b) sound = bool_written b
sound_written (value.whole kind z) sound = whole_written kind z sound
sound_written (value.char c) sound = char_written c sound
sound_written (value.string s) sound = string_written s sound

-- the text of each value of one token is one token
pub leaf_written : (S : Simple) (one : Leaf) → IsLeafOf S one → IsWritten S one
leaf_written S one of = subst (λ (z : Simple). IsWritten z one) of.0 (sound_written one of.1)
