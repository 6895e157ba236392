-- A picture's text. Each shape is an element with its attributes, closed where it stands; what a label says is escaped.
use Rattle.std.specs.Prelude.{ℕ, ◌==◌, ◌&&◌, Bool, List, [], ◌∷◌, ◌++◌, codes, decimal, flat_map, if◌then◌else◌, nat_le, not, string_bytes}
use Rattle.run_picture.specs.declared.shapes.Picture.{Picture}
use Rattle.run_picture.specs.declared.shapes.Shape.{Shape}
use Rattle.run_picture.specs.declared.shapes.Shape.TheVariants.{Box, Line, Tip, Label}
use Rattle.run_picture.specs.Shapes.{look_text}

-- A text and then another: `++`, grouped to the right.
infixr 8 ◌⧺◌
abbrev pub ◌⧺◌ : List ℕ → List ℕ → List ℕ
text ⧺ others = text ++ others

-- A byte of a text between two tags: what would begin a tag or a reference is written by its name, and what isn't
-- printable ASCII as a question mark.
abbrev pub escaped_byte : ℕ → List ℕ
escaped_byte byte =
    if byte == 60 then codes "&lt;"
    else if byte == 62 then codes "&gt;"
    else if byte == 38 then codes "&amp;"
    else if nat_le 32 byte && nat_le byte 126 then byte ∷ []
    else codes "?"

-- A text between two tags.
abbrev pub escaped : List ℕ → List ℕ
escaped text = flat_map escaped_byte text

-- Whether a byte is printable ASCII and neither begins nor ends a tag.
abbrev pub is_between_tags : ℕ → Bool
is_between_tags byte = nat_le 32 byte && nat_le byte 126 && not (byte == 60) && not (byte == 62)

-- An attribute with a number.
abbrev pub number_text : List ℕ → ℕ → List ℕ
number_text name number = codes " " ⧺ name ⧺ codes "=\"" ⧺ decimal number ⧺ codes "\""

-- The way from the tip of an arrow around its head.
abbrev pub head_text : Bool → List ℕ
head_text to_left = if to_left then codes "l8 -4 v8 z" else codes "l-8 -4 v8 z"

-- The element of a shape.
abbrev pub shape_text : Shape → List ℕ
shape_text (Box x y width height look) =
    codes "<rect" ⧺ number_text (codes "x") x ⧺ number_text (codes "y") y ⧺ number_text (codes "width") width
    ⧺ number_text (codes "height") height ⧺ codes " " ⧺ look_text look ⧺ codes "/>\n"
shape_text (Line x y to_x to_y look) =
    codes "<line" ⧺ number_text (codes "x1") x ⧺ number_text (codes "y1") y ⧺ number_text (codes "x2") to_x
    ⧺ number_text (codes "y2") to_y ⧺ codes " " ⧺ look_text look ⧺ codes "/>\n"
shape_text (Tip x y to_left look) =
    codes "<path d=\"M" ⧺ decimal x ⧺ codes " " ⧺ decimal y ⧺ head_text to_left ⧺ codes "\" " ⧺ look_text look ⧺ codes "/>\n"
shape_text (Label x y text look) =
    codes "<text" ⧺ number_text (codes "x") x ⧺ number_text (codes "y") y ⧺ codes " " ⧺ look_text look ⧺ codes ">"
    ⧺ escaped (string_bytes text) ⧺ codes "</text>\n"

-- How the tag before all shapes begins: what its names mean.
unfoldable pub names_text : List ℕ
names_text = codes "<svg xmlns=\"http://www.w3.org/2000/svg\""

-- The letters of all labels.
unfoldable pub letters_text : List ℕ
letters_text = codes "font-family=\"monospace\" font-size=\"11\" xml:space=\"preserve\""

-- The tag before all shapes, of a picture so wide and high.
abbrev pub opening_text : ℕ → ℕ → List ℕ
opening_text width height =
    names_text ⧺ number_text (codes "width") width ⧺ number_text (codes "height") height ⧺ codes " " ⧺ letters_text ⧺ codes ">\n"

-- A picture is one element, with an element for each shape in it.
abbrev pub svg_text : Picture → List ℕ
svg_text picture =
    opening_text picture.width picture.height ⧺ flat_map shape_text picture.shapes.items ⧺ codes "</svg>\n"
