-- A current image is installed.
use Rattle.holder_ties.proofs.Installs.{disk-image-is-installed, image-is-upgraded, shipment-is-installed}
use Rattle.holder_ties.proofs.holders.an_image_is_installed.Goals as goal

pub returns : goal.returns
returns c = record { shipped = shipment-is-installed; from_disk = disk-image-is-installed; upgraded = image-is-upgraded }
