-- An order to ship an image is followed.
use Rattle.holder_ties.proofs.Orders.{image-is-shared, image-is-shipped, share-comes-back, ship-comes-back}
use Rattle.holder_ties.proofs.holders.an_order_is_followed.Goals as goal

pub returns : goal.returns
returns c = record { back = ship-comes-back; back_shared = share-comes-back; moves = image-is-shipped; shares = image-is-shared }
