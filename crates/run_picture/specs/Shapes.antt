-- How the shapes of a picture look.
use Rattle.std.specs.Prelude.{ℕ, List, codes}
use Rattle.run_picture.specs.declared.shapes.Look.{Look}
use Rattle.run_picture.specs.declared.shapes.Look.TheVariants as looks

-- The attributes by which a shape looks so.
unfoldable pub look_text : Look → List ℕ
look_text looks.Up = codes "fill=\"#eef2f6\""
look_text looks.Paused = codes "fill=\"#fbe3b3\""
look_text looks.Down = codes "fill=\"#c4c4ca\""
look_text looks.Reading = codes "fill=\"#7fb2e5\""
look_text looks.Changing = codes "fill=\"#4a7fb5\""
look_text looks.Ending = codes "fill=\"#57a773\""
look_text looks.Refused = codes "fill=\"#d1495b\""
look_text looks.Block = codes "stroke=\"#8b4bb0\" fill=\"#8b4bb0\" stroke-width=\"2\""
look_text looks.Copy = codes "stroke=\"#b48bc9\" fill=\"#b48bc9\" stroke-width=\"2\""
look_text looks.Paper = codes "fill=\"#ffffff\""
look_text looks.Between = codes "stroke=\"#888888\" fill=\"#888888\" stroke-width=\"1\""
look_text looks.Title = codes "fill=\"#222222\" font-size=\"15\""
look_text looks.Head = codes "fill=\"#222222\" font-weight=\"bold\" font-size=\"13\""
look_text looks.Number = codes "fill=\"#999999\""
look_text looks.Words = codes "fill=\"#444444\""
look_text looks.AnswerWords = codes "fill=\"#222222\" font-weight=\"bold\""
look_text looks.CommitWords = codes "fill=\"#2c7a47\" font-weight=\"bold\""
look_text looks.RefusedWords = codes "fill=\"#b02a3b\" font-weight=\"bold\""
look_text looks.BlockWords = codes "fill=\"#7a3d9c\""
look_text looks.CopyWords = codes "fill=\"#9a6fb1\""
look_text looks.RedoWords = codes "fill=\"#8a6d1d\""
look_text looks.RecoveryWords = codes "fill=\"#b36b00\""
look_text looks.CrashWords = codes "fill=\"#b02a3b\" font-weight=\"bold\""
