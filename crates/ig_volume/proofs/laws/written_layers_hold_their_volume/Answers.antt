use Rattle.ig_volume.proofs.Texts.{box_files-hold_volumes, layer_files-hold_volumes, maps-have_layers, maps-have_texts, texts-hold_maps}
use Rattle.ig_volume.proofs.laws.written_layers_hold_their_volume.Goals as goal

pub returns-clause-volume : goal.returns-clause-volume
returns-clause-volume c = texts-hold_maps

pub returns-clause-texts : goal.returns-clause-texts
returns-clause-texts c = maps-have_texts

pub returns-clause-layer : goal.returns-clause-layer
returns-clause-layer c = maps-have_layers

pub returns-clause-files : goal.returns-clause-files
returns-clause-files c = layer_files-hold_volumes

pub returns-clause-boxes : goal.returns-clause-boxes
returns-clause-boxes c = box_files-hold_volumes
