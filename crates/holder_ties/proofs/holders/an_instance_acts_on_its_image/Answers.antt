-- An instance acts on its image of its own accord.
use Rattle.holder_ties.proofs.Own.{ask-goes-out, image-is-evicted, image-is-written, write-is-pleaded, write-is-told}
use Rattle.holder_ties.proofs.holders.an_instance_acts_on_its_image.Goals as goal

pub returns : goal.returns
returns c = record { asks = ask-goes-out; evicts = image-is-evicted; pleads = write-is-pleaded; writes = image-is-written; tells = write-is-told }
